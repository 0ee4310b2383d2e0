-- From a body to the step Propose, or to the reason why there is none.
use Rattle.std.proofs.Common.{◌≡◌, ◌∙◌, ℕ, ◌≤◌, ◌<◌, Bool, true, false, cond, ◌&&◌, nat_le, List, length, Vec, refl, sym, ap, subst, inl, inr}
use Rattle.std.specs.Prelude.{Result, Ok, Err, Option, Some, None}
use Rattle.std.specs.Str.{is_utf8}
use Rattle.std.proofs.lemmas.Bool.{cases_lt, leb-true}
use Rattle.std.proofs.lemmas.Option.{none-some}
use Rattle.wf_spelling.specs.Canon.{canon, most_canon_bytes, IsCauseOf}
use Rattle.wf_spelling.specs.declared.fault.CanonFault.{CanonFault}
use Rattle.wf_spelling.specs.declared.fault.CanonFault.TheVariants as canonical
use Rattle.wf_codec.specs.declared.message.Message.{Message}
use Rattle.wf_def.specs.Definition.{Definition}
use Rattle.wf_mapfile.specs.Meaning.{Means, meaning, longest_mapfile}
use Rattle.wf_mapfile.specs.Rejection.{HasError}
use Rattle.wf_block.specs.ReadContract.{is_memory, IsNotUtf8}
use Rattle.wf_block.specs.declared.fault.MapFault.{MapFault}
use Rattle.wf_block.specs.declared.fault.MapFault.TheVariants as map
use Rattle.wf_node.specs.Node.{Node}
use Rattle.wf_node.specs.declared.fault.NodeFault.{NodeFault}
use Rattle.wf_http.specs.Response.{Response}
use Rattle.wf_edge.specs.Page.{accepted_page}
use Rattle.wf_edge.specs.Publish.{IsMapOf, IsMapfileText, IsWhyNoMap, IsProposed, IsPublished, unwritten}
use Rattle.wf_edge.specs.declared.publish_fault.PublishFault.{PublishFault}
use Rattle.wf_edge.specs.declared.publish_fault.PublishFault.TheVariants as fault
use Rattle.wf_tape.specs.declared.tape.Tape.{Ghosts as Tape}

-- ---- the map of the body

memory_alone : (why : MapFault) → is_memory why ≡ true → why ≡ map.Memory
memory_alone map.Memory is = refl
memory_alone map.TooLong is = let clash : false ≡ true = is in cc
memory_alone (map.NotUtf8 byte_offset) is = let clash : false ≡ true = is in cc
memory_alone (map.BadToken byte_offset) is = let clash : false ≡ true = is in cc
memory_alone (map.UnexpectedWord byte_offset) is = let clash : false ≡ true = is in cc
memory_alone (map.MissingEnd byte_offset) is = let clash : false ≡ true = is in cc
memory_alone (map.BadNumber byte_offset) is = let clash : false ≡ true = is in cc
memory_alone (map.OutOfRange byte_offset) is = let clash : false ≡ true = is in cc
memory_alone map.Missing is = let clash : false ≡ true = is in cc
memory_alone (map.Repeated byte_offset) is = let clash : false ≡ true = is in cc
memory_alone map.TooMany is = let clash : false ≡ true = is in cc
memory_alone (map.Trailing byte_offset) is = let clash : false ≡ true = is in cc

abbrev rejected : MapFault → Result Definition MapFault
rejected why = Err why

same_fault : (why other : MapFault) → rejected why ≡ rejected other → why ≡ other
same_fault why other is = cc

-- a body whose error is allocation failure is a text
is_text : (body : List ℕ) (utf8 : Bool) → is_utf8 body ≡ utf8 → (longest_mapfile < length body → map.Memory ≡ map.TooLong)
    → (length body ≤ longest_mapfile → utf8 ≡ false → ⊥) → IsMapfileText body
is_text body utf8 is too_long not_utf8 = elim (cases_lt longest_mapfile (length body)) [
  | inl over ↦ let clash = too_long over in cc
  | inr within ↦ text utf8 is within (not_utf8 within)
]
  where
    text : (utf8 : Bool) → is_utf8 body ≡ utf8 → length body ≤ longest_mapfile → (utf8 ≡ false → ⊥) → IsMapfileText body
    text true is within not = record { within = within; utf8 = is }
    text false is within not = absurd (not refl)

unread_step : (body : List ℕ) (why : MapFault) (memory : Bool) → is_memory why ≡ memory → (memory ≡ false → HasError body why)
    → (longest_mapfile < length body → why ≡ map.TooLong) → (length body ≤ longest_mapfile → is_utf8 body ≡ false → IsNotUtf8 (rejected why))
    → IsWhyNoMap body (cond memory fault.Memory (fault.Map why))
unread_step body why true is has too_long not_utf8 =
    let same = memory_alone why is in
    is_text body (is_utf8 body) refl (λ over. sym same ∙ too_long over) (λ within no. subst (λ w. IsNotUtf8 (rejected w)) same (not_utf8 within no))
unread_step body why false is has too_long not_utf8 = record { own = is; is = has refl }

pub why_unread : (body : List ℕ) (why : MapFault) (reported : PublishFault) → reported ≡ cond (is_memory why) fault.Memory (fault.Map why)
    → (is_memory why ≡ false → HasError body why) → (longest_mapfile < length body → rejected why ≡ rejected map.TooLong)
    → (length body ≤ longest_mapfile → is_utf8 body ≡ false → IsNotUtf8 (rejected why)) → IsWhyNoMap body reported
why_unread body why reported is has too_long not_utf8 =
    subst (λ f. IsWhyNoMap body f) (sym is)
    (unread_step body why (is_memory why) refl has (λ over. same_fault why map.TooLong (too_long over)) not_utf8)

-- a body that is a map is a text
text_step : (body : List ℕ) (d : Definition) (meant : Option Definition) (within utf8 : Bool) → nat_le (length body) longest_mapfile ≡ within → is_utf8 body ≡ utf8
    → cond (within && utf8) meant None ≡ Some d → IsMapfileText body
text_step body d meant true true within utf8 means = record { within = leb-true (length body) longest_mapfile within; utf8 = utf8 }
text_step body d meant true false within utf8 means = absurd (none-some d means)
text_step body d meant false utf8 within is means = absurd (none-some d means)

pub meant_text : (body : List ℕ) (d : Definition) → Means body d → IsMapfileText body
unfolding meaning
meant_text body d means = text_step body d _ (nat_le (length body) longest_mapfile) (is_utf8 body) refl refl means

unwritten_step : (body : List ℕ) (d : Definition) (why : CanonFault) → Means body d → IsCauseOf why d → IsWhyNoMap body (unwritten why)
unwritten_step body d canonical.TooBig means cause = (d, means, cause)
unwritten_step body d canonical.NotCanonical means cause = meant_text body d means
unwritten_step body d canonical.Memory means cause = meant_text body d means

pub why_unwritten : (body : List ℕ) (d : Definition) (why : CanonFault) (reported : PublishFault) → Means body d → IsCauseOf why d → reported ≡ unwritten why
    → IsWhyNoMap body reported
why_unwritten body d why reported means cause is = subst (λ f. IsWhyNoMap body f) (sym is) (unwritten_step body d why means cause)

pub is_map : (body : List ℕ) (d c : Definition) → Means body d → c ≡ d → length (canon d) ≤ most_canon_bytes → IsMapOf body c
is_map body d c means is short = subst (λ x. IsMapOf body x) (sym is) (record { means = means; short = short })

-- a body that is a map's canonical text
pub is_scanned : (body : List ℕ) (c : Definition) → Means body c → canon c ≡ body → length body ≤ most_canon_bytes → IsMapOf body c
is_scanned body c means text short = record { means = means; short = subst (λ t. length t ≤ most_canon_bytes) (sym text) short }

module _ {T A : Type 0} (tapes : Tape T) where
  -- ---- the result for the body

  pub accepted : (body : List ℕ) (before after : Node T) (d : Definition) (last : ℕ) (page : Response) (messages : Vec Message A) → IsMapOf body d
      → last ≡ length before.parts.history → page ≡ accepted_page last → IsProposed tapes before d (Ok messages) after
      → IsPublished tapes body before (Ok (page, messages)) after
  accepted body before after d last page messages means is reports step = (d, means, step, reports ∙ ap (λ n. accepted_page n) is)

  pub node_fails : (body : List ℕ) (before after : Node T) (d : Definition) (why : NodeFault) → IsMapOf body d
      → IsProposed {A = A} tapes before d (Err why) after
      → IsPublished {A = A} tapes body before (Err (fault.Node why)) after
  node_fails body before after d why means step = (d, means, step)

-- Calls of a folder, one after the other.
use Rattle.std.specs.Prelude.{◌≡◌, Bool, false, List, [], ◌∷◌, ◌++◌, if◌then◌else◌}
use Rattle.std.proofs.Common.{refl, sym, ap, ◌∙◌, append_assoc}
use Rattle.wf_store.specs.Call.{Call, is_change, changes, IsAfter, OnlyReads}

pub after_none : (calls : List Call) → IsAfter calls calls
after_none calls = record { later = []; is = refl }

pub after_one : (call : Call) (earlier calls : List Call) → calls ≡ call ∷ earlier → IsAfter earlier calls
after_one call earlier calls is = record { later = call ∷ []; is = is }

pub after_both : (a b c : List Call) → IsAfter a b → IsAfter b c → IsAfter a c
after_both a b c first second = record {
  later = second.later ++ first.later;
  is = second.is ∙ ap (λ (calls : List Call). second.later ++ calls) first.is ∙ sym (append_assoc second.later first.later a);
}

pub reads_none : (calls : List Call) → OnlyReads calls calls
reads_none calls = record { after = after_none calls; unchanged = refl }

pub reads_one : (call : Call) (earlier calls : List Call) → calls ≡ call ∷ earlier → is_change call.kind ≡ false → OnlyReads earlier calls
reads_one call earlier calls is reads = record {
  after = after_one call earlier calls is;
  unchanged = ap changes is ∙ ap (λ (b : Bool). if b then call ∷ changes earlier else changes earlier) reads;
}

pub reads_both : (a b c : List Call) → OnlyReads a b → OnlyReads b c → OnlyReads a c
reads_both a b c first second = record { after = after_both a b c first.after second.after; unchanged = second.unchanged ∙ first.unchanged }

-- What isn't a greeting and doesn't begin as a rejection is no reply.
use Rattle.std.proofs.Common.{◌≡◌, ◌∙◌, ℕ, ◌<◌, List, length, ◌∷◌, ◌++◌, Result, Ok, Err, ap, sym, arith, get_or}
use Rattle.std.specs.Prelude.{Option, codes}
use Rattle.std.proofs.lemmas.List.{append_assoc, append_cancel_left}
use Rattle.std.specs.Int.{w16, to_be_bytes}
use Rattle.wf_peer.specs.Greeting.{body_bytes, greeting_bytes, peer_version}
use Rattle.wf_peer.specs.GreetingReply.{IsGreetingReply, rejection_byte, rejection_bytes, remembered_bytes, reply_bytes}
use Rattle.std.proofs.lemmas.Result.{err_from_is_err_and}
use Rattle.wf_peer.specs.declared.fault.GreetingFault.{GreetingFault}
use Rattle.wf_peer.specs.declared.fault.GreetingFault.TheVariants as faults
use Rattle.wf_peer.specs.declared.progress.Progress.{Progress}
use Rattle.wf_peer.specs.declared.rejection.PeerRejection.{PeerRejection}
use Rattle.wf_peer.specs.declared.reply.GreetingReply.{GreetingReply}
use Rattle.wf_peer.specs.declared.reply.GreetingReply.TheVariants as replies
use Rattle.wf_peer.proofs.Decoded.{behind_front, error_of_exit, handed_on, within_front}
use Rattle.wf_peer.proofs.Replies.{either, short_reply}
use Rattle.wf_peer.proofs.reply.decode_reply.Goals as goal

not_both : (bytes a b : List ℕ) → bytes ≡ codes "wf-nope\n" ++ a → bytes ≡ codes "wf-node\n" ++ b → ⊥
not_both bytes a b rejected greeted =
    let same : codes "wf-nope\n" ++ a ≡ codes "wf-node\n" ++ b = sym rejected ∙ greeted in
    let later : codes "pe\n" ++ a ≡ codes "de\n" ++ b = append_cancel_left (codes "wf-no") _ _ same in
    let numbers : 112 ≡ 100 = ap (λ (l : List ℕ). get_or l 0 0) later in
    omega (arith, numbers)

cause_there : (bytes a b rest body : List ℕ) → bytes ≡ codes "wf-nope\n" ++ a → a ≡ to_be_bytes w16 peer_version ++ b →
    bytes ≡ (codes "wf-nope\n" ++ (to_be_bytes w16 peer_version ++ body)) ++ rest → b ≡ body ++ rest
cause_there bytes a b rest body marked versioned e =
    let same : codes "wf-nope\n" ++ (to_be_bytes w16 peer_version ++ b) ≡ codes "wf-nope\n" ++ (to_be_bytes w16 peer_version ++ (body ++ rest)) =
    ap (λ (t : List ℕ). codes "wf-nope\n" ++ t) (sym versioned) ∙ sym marked ∙ e in
    append_cancel_left (to_be_bytes w16 peer_version) b (body ++ rest) (append_cancel_left (codes "wf-nope\n") _ _ same)

-- equal causes and what is remembered are one rejection
replied : Result (PeerRejection × Option Progress) GreetingFault → Result GreetingReply GreetingFault
replied (Ok x) = Ok (replies.Rejected x.0 x.1)
replied (Err fault) = Err fault

one_rejection : (why other : PeerRejection) (p q : Option Progress) → ◌≡◌ {A = Result (PeerRejection × Option Progress) GreetingFault} (Ok (why, p)) (Ok (other, q)) →
    ◌≡◌ {A = Result GreetingReply GreetingFault} (Ok (replies.Rejected why p)) (Ok (replies.Rejected other q))
unfolding replied
one_rejection why other p q same = ap replied same

pub returns-in-Err-clause-each : goal.returns-in-Err-clause-each
unfolding rejection_bytes greeting_bytes
returns-in-Err-clause-each c = either (λ (reply : GreetingReply). (rest : List ℕ) → IsGreetingReply reply → c.args.bytes.now ≡ reply_bytes reply ++ rest → ◌≡◌ {A = Result GreetingReply GreetingFault} (Err c.in-Err.fault) (Ok reply))
    (λ g rest is e. absurd (not_both c.args.bytes.now _ ((to_be_bytes w16 peer_version ++ body_bytes g) ++ rest) c.in-Some.ensures e))
    (λ why p rest is e.
    let here : c.in_ok-after_version-in-Some.field-0.now ≡ rejection_byte why ∷ (remembered_bytes p ++ rest) =
    cause_there c.args.bytes.now _ c.in_ok-after_version-in-Some.field-0.now rest (rejection_byte why ∷ remembered_bytes p) c.in-Some.ensures c.in_ok-after_version-in-Some.ensures.ok e in
    let got = c.in-Err.ensures.each why p rest is here in
    cc)

pub returns-in-Ok-clause-each : goal.returns-in-Ok-clause-each
unfolding rejection_bytes greeting_bytes
returns-in-Ok-clause-each c = either (λ (reply : GreetingReply). (rest : List ℕ) → IsGreetingReply reply → c.args.bytes.now ≡ reply_bytes reply ++ rest → ◌≡◌ {A = Result GreetingReply GreetingFault} (Ok (replies.Rejected c.in-Ok.why c.in-Ok.remembered)) (Ok reply))
    (λ g rest is e. absurd (not_both c.args.bytes.now _ ((to_be_bytes w16 peer_version ++ body_bytes g) ++ rest) c.in-Some.ensures e))
    (λ why p rest is e.
    let here : c.in_ok-after_version-in-Some.field-0.now ≡ rejection_byte why ∷ (remembered_bytes p ++ rest) =
    cause_there c.args.bytes.now _ c.in_ok-after_version-in-Some.field-0.now rest (rejection_byte why ∷ remembered_bytes p) c.in-Some.ensures c.in_ok-after_version-in-Some.ensures.ok e in
    one_rejection c.in-Ok.why why c.in-Ok.remembered p (c.in-Ok.ensures.each why p rest is here))

-- ---- beginnings

not_both_longer : (bytes more a b : List ℕ) → bytes ≡ codes "wf-nope\n" ++ a → bytes ++ more ≡ codes "wf-node\n" ++ b → ⊥
not_both_longer bytes more a b rejected greeted =
    not_both (bytes ++ more) (a ++ more) b (ap (λ (l : List ℕ). l ++ more) rejected ∙ append_assoc (codes "wf-nope\n") a more) greeted

-- what follows the mark and the version
abbrev after_mark : PeerRejection → Option Progress → List ℕ
after_mark why p = to_be_bytes w16 peer_version ++ rejection_byte why ∷ remembered_bytes p

pub returns-in_err-after_version-in-Some-clause-begins : goal.returns-in_err-after_version-in-Some-clause-begins
unfolding rejection_bytes greeting_bytes
returns-in_err-after_version-in-Some-clause-begins c = either (λ (reply : GreetingReply). (more : List ℕ) → IsGreetingReply reply → 0 < length more → c.args.bytes.now ++ more ≡ reply_bytes reply → c.from_residual.result ≡ Err faults.Short)
    (λ g more is some e. absurd (not_both_longer c.args.bytes.now more _ (to_be_bytes w16 peer_version ++ body_bytes g) c.in-Some.ensures e))
    (λ why p more is some e.
    let behind = behind_front c.args.bytes.now c.in-Some.rest.now more (codes "wf-nope\n") (after_mark why p) c.in-Some.ensures e in
    let few : length c.in-Some.rest.now < 2 = within_front c.in-Some.rest.now more (to_be_bytes w16 peer_version) (rejection_byte why ∷ remembered_bytes p) behind c.in_err-after_version-in-Some.ensures.err in
    let exit = err_from_is_err_and c.from_residual.result c.from_residual.ensures.1 in
    error_of_exit c.from_residual.result exit.0 _ _ exit.1 exit.2 (c.in_err-after_version-in-Some.ensures.begins few))

pub returns-in-Err-clause-begins : goal.returns-in-Err-clause-begins
unfolding rejection_bytes greeting_bytes
returns-in-Err-clause-begins c = either (λ (reply : GreetingReply). (more : List ℕ) → IsGreetingReply reply → 0 < length more → c.args.bytes.now ++ more ≡ reply_bytes reply → ◌≡◌ {A = Result GreetingReply GreetingFault} (Err c.in-Err.fault) (Err faults.Short))
    (λ g more is some e. absurd (not_both_longer c.args.bytes.now more _ (to_be_bytes w16 peer_version ++ body_bytes g) c.in-Some.ensures e))
    (λ why p more is some e.
    let behind = behind_front c.args.bytes.now c.in-Some.rest.now more (codes "wf-nope\n") (after_mark why p) c.in-Some.ensures e in
    let body = behind_front c.in-Some.rest.now c.in_ok-after_version-in-Some.field-0.now more (to_be_bytes w16 peer_version) (rejection_byte why ∷ remembered_bytes p) c.in_ok-after_version-in-Some.ensures.ok behind in
    handed_on c.in-Err.fault _ (c.in-Err.ensures.begins why p more is some body))

pub returns-in-Err-decode-clause-begins : goal.returns-in-Err-decode-clause-begins
unfolding rejection_bytes greeting_bytes
returns-in-Err-decode-clause-begins c = either (λ (reply : GreetingReply). (more : List ℕ) → IsGreetingReply reply → 0 < length more → c.args.bytes.now ++ more ≡ reply_bytes reply → ◌≡◌ {A = Result GreetingReply GreetingFault} (Err c.in-Err-decode.fault) (Err faults.Short))
    (λ g more is some e. handed_on c.in-Err-decode.fault _ (c.in-Err-decode.ensures.begins g more is some e))
    (λ why p more is some e.
    handed_on c.in-Err-decode.fault _ (c.in-Err-decode.ensures.few (within_front c.args.bytes.now more (codes "wf-nope\n") (after_mark why p) e c.in-None.ensures)))

pub returns-in-Err-decode-clause-short : goal.returns-in-Err-decode-clause-short
returns-in-Err-decode-clause-short c = λ short.
    let decoded = handed_on _ _ short in
    short_reply c.args.bytes.now (c.in-Err-decode.ensures.short decoded) (c.in-Err-decode.ensures.mark decoded)

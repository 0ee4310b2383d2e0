-- How many bytes a reply has, by those that it begins with.
use Rattle.std.proofs.Common.{◌≡◌, ◌≢◌, ◌∙◌, ◌<◌, ◌≤◌, ◌+◌, ℕ, List, ◌++◌, length, get_or, refl, sym, ap, arith}
use Rattle.std.specs.Prelude.{Option, Some, None, cond, ltb, ◌==◌}
use Rattle.std.proofs.lemmas.Bool.{cond_both, eqb-true, ltb-false, ltb-true}
use Rattle.std.proofs.lemmas.List.{get_or_append_left}
use Rattle.wf_peer.specs.Greeting.{greeting_length, greeting_mark}
use Rattle.wf_peer.specs.GreetingReply.{IsGreetingReply, IsProgressOrNone, rejection_bytes, remembered_bytes, remembered_length, reply_bytes, reply_length}
use Rattle.wf_peer.specs.declared.greeting.Greeting.{Greeting}
use Rattle.wf_peer.specs.declared.progress.Progress.{Progress}
use Rattle.wf_peer.specs.declared.rejection.PeerRejection.{PeerRejection}
use Rattle.wf_peer.specs.declared.reply.GreetingReply.{GreetingReply}
use Rattle.wf_peer.specs.declared.reply.GreetingReply.TheVariants as replies
use Rattle.wf_peer.proofs.Bodies.{at_least}
use Rattle.wf_peer.proofs.Sizes.{length_of_progress}

-- by which of the two the reply is
pub either : (P : GreetingReply → Type 0) → ((g : Greeting) → P (replies.Greeting g)) → ((why : PeerRejection) (p : Option Progress) → P (replies.Rejected why p)) → (reply : GreetingReply) → P reply
either P of_greeting of_rejection (replies.Greeting g) = of_greeting g
either P of_greeting of_rejection (replies.Rejected why p) = of_rejection why p

least_remembered : (p : Option Progress) → 1 ≤ length (remembered_bytes p)
least_remembered None = omega arith
least_remembered (Some p) = omega arith

least_rejection : (why : PeerRejection) (p : Option Progress) → 12 ≤ length (rejection_bytes why p)
unfolding rejection_bytes
least_rejection why p = omega (arith, least_remembered p)

pub least_reply : (reply : GreetingReply) → IsGreetingReply reply → 12 ≤ length (reply_bytes reply)
least_reply (replies.Greeting g) is = omega (arith, at_least g is)
least_reply (replies.Rejected why p) is = least_rejection why p

-- a byte of bytes that go as far is that of the whole
byte_of : (bytes more whole : List ℕ) (i b : ℕ) → bytes ++ more ≡ whole → i < length bytes → get_or whole i 0 ≡ b → get_or bytes i 0 ≡ b
byte_of bytes more whole i b e far is = sym (get_or_append_left bytes more 0 i far) ∙ ap (λ (l : List ℕ). get_or l i 0) e ∙ is

sixth : (why : PeerRejection) (p : Option Progress) (rest : List ℕ) → get_or (rejection_bytes why p ++ rest) 5 0 ≡ 112
unfolding rejection_bytes
sixth why p rest = refl

twelfth : (why : PeerRejection) (rest : List ℕ) → get_or (rejection_bytes why None ++ rest) 11 0 ≡ 0
unfolding rejection_bytes
twelfth why rest = refl

pub sixth_of_rejection : (bytes more rest : List ℕ) (why : PeerRejection) (p : Option Progress) → bytes ++ more ≡ rejection_bytes why p ++ rest → 12 ≤ length bytes → get_or bytes 5 0 ≡ 112
sixth_of_rejection bytes more rest why p e far = byte_of bytes more (rejection_bytes why p ++ rest) 5 112 e (omega (arith, far)) (sixth why p rest)

length_of_long : (why : PeerRejection) (p : Progress) → IsProgressOrNone (Some p) → length (rejection_bytes why (Some p)) ≡ 66
unfolding rejection_bytes
length_of_long why p is = omega (arith, length_of_progress p is)

pub long_rejection : (bytes more rest : List ℕ) (why : PeerRejection) (p : Option Progress) → IsProgressOrNone p → bytes ++ more ≡ rejection_bytes why p ++ rest → 12 ≤ length bytes → get_or bytes 11 0 ≢ 0 → 66 ≤ length (rejection_bytes why p)
long_rejection bytes more rest why None is e far other = absurd (other (byte_of bytes more (rejection_bytes why None ++ rest) 11 0 e (omega (arith, far)) (twelfth why rest)))
long_rejection bytes more rest why (Some p) is e far other = omega (arith, length_of_long why p is)

sixth_of_greeting : (bytes rest : List ℕ) → bytes ≡ greeting_mark ++ rest → get_or bytes 5 0 ≡ 100
sixth_of_greeting bytes rest e = ap (λ (l : List ℕ). get_or l 5 0) e

-- a greeting that isn't whole is a reply that isn't
pub short_reply : (bytes : List ℕ) → length bytes < greeting_length bytes → (8 ≤ length bytes → (rest : List ℕ) × (bytes ≡ greeting_mark ++ rest)) → length bytes < reply_length bytes
short_reply bytes less marked =
    cond_both (ltb (length bytes) 12) 12 (cond (get_or bytes 5 0 == 112) (11 + remembered_length (get_or bytes 11 0)) (greeting_length bytes)) (λ (n : ℕ). length bytes < n)
    (λ few. ltb-true (length bytes) 12 few)
    (λ far.
    let mark = marked (omega (arith, ltb-false (length bytes) 12 far)) in
    cond_both (get_or bytes 5 0 == 112) (11 + remembered_length (get_or bytes 11 0)) (greeting_length bytes) (λ (n : ℕ). length bytes < n)
    (λ rejected. absurd (omega (arith, eqb-true (get_or bytes 5 0) 112 rejected, sixth_of_greeting bytes mark.0 mark.1)))
    (λ other. less))

-- Encodings one after the other, and the bytes before an end.
use Rattle.std.proofs.Common.{◌≡◌, ℕ, ◌-◌, List, [], ◌∷◌, ◌++◌, length, take, refl, sym, ap, subst, ◌∙◌, append_assoc, append-nil, length-append, arith}
use Rattle.wf_codec.specs.Encoding.{spelling}
use Rattle.wf_def.specs.Definition.{Definition}
use Rattle.wf_model.specs.Message.{Message}
use Rattle.wf_mail.specs.Mail.{spelled, AreMessages}
use Rattle.wf_mail.specs.Outbox.{before_end}

-- ---- the encodings of two lists

pub spelled_then : (messages more : List (Message Definition)) → spelled (messages ++ more) ≡ spelled messages ++ spelled more
unfolding spelled
spelled_then [] more = refl
spelled_then (m ∷ messages) more = ap (λ bytes. spelling m ++ bytes) (spelled_then messages more) ∙ sym (append_assoc (spelling m) (spelled messages) (spelled more))

pub spelled_one : (m : Message Definition) → spelled (m ∷ []) ≡ spelling m
unfolding spelled
spelled_one m = append-nil (spelling m)

pub messages_then : (messages more : List (Message Definition)) → AreMessages messages → AreMessages more → AreMessages (messages ++ more)
messages_then [] more are others = others
messages_then (m ∷ messages) more are others = (are.0, messages_then messages more are.1 others)

-- ---- the bytes before an end

take_front : (front back : List ℕ) → take (length front) (front ++ back) ≡ front
take_front [] back = refl
take_front (x ∷ front) back = ap (λ bytes. x ∷ bytes) (take_front front back)

pub before_is : (written waiting all : List ℕ) → written ++ waiting ≡ all → before_end all waiting ≡ written
before_is written waiting all e =
    subst (λ bytes. before_end bytes waiting ≡ written) e
    (ap (λ k. take k (written ++ waiting)) (long written waiting) ∙ take_front written waiting)
  where
    long : (xs ys : List ℕ) → length (xs ++ ys) - length ys ≡ length xs
    long xs ys = omega (arith, length-append xs ys)

-- The theorems about connections.
use Rattle.std.specs.Prelude.{◌≡◌, ℕ, List, []}
use Rattle.wf_def.specs.Definition.{Definition}
use Rattle.wf_model.specs.Message.{Message}
use Rattle.wf_mail.specs.Stream.{Splits, Reads, Breaks}
use Rattle.wf_codec.specs.declared.fault.DecodeFault.{DecodeFault}
use Rattle.wf_mail.specs.Mail.{spelled, AreMessages, IsFirstPart, IsCarried}

-- Of a connection only messages come that were put in, in order, none skipped, repeated or
-- invented.
abbrev pub OnlySentCome : Type 0
OnlySentCome = (put came : List (Message Definition)) (bytes rest : List ℕ) → IsCarried put bytes → Splits bytes came rest → IsFirstPart came put

-- Of one that carried all bytes all messages come, and nothing is kept back.
abbrev pub AllSentCome : Type 0
AllSentCome = (put came : List (Message Definition)) (rest : List ℕ) → AreMessages put → Reads (spelled put) came rest → (came ≡ put) × (rest ≡ [])

-- What comes of a connection never has an error.
abbrev pub NeverBreaks : Type 0
NeverBreaks = (put : List (Message Definition)) (bytes : List ℕ) (fault : DecodeFault) → IsCarried put bytes → Breaks bytes fault → ⊥

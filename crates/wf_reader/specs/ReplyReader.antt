-- How a reply is read. Used only in this crate's contracts.
use Rattle.std.specs.Prelude.{◌≡◌, ℕ, ◌≤◌, List, ◌++◌, length, Result, MatchResult}
use Rattle.wf_def.specs.Definition.{Definition}
use Rattle.wf_reader.specs.Reply.{AreTexts, texts_bytes}
use Rattle.wf_reader.specs.declared.fault.ReplyFault.{ReplyFault}
use Rattle.wf_reader.specs.declared.fault.ReplyFault.TheVariants.{Memory}

-- it is read, or an allocation failed
abbrev pub IsReplyRead : {X : Type 0} → Result X ReplyFault → X → Type 0
IsReplyRead result x = MatchResult result (λ found. found ≡ x) (λ fault. fault ≡ Memory)

-- the definitions whose texts the bytes are, no more than so many, were appended to the list
pub record ReadsTexts (bytes : List ℕ) (most : ℕ) (old new : List Definition) : Type 0 where
  pub found : List Definition
  pub bytes_are : bytes ≡ texts_bytes found
  pub texts : AreTexts found
  pub few : length found ≤ most
  pub appended : new ≡ old ++ found

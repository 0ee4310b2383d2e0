-- Whether an asked node agrees to a replacement.
use Rattle.std.specs.Prelude.{◌≡◌, ◌≢◌, ℕ, ◌<◌, ◌≤◌, ◌⊎◌, Bool, true, false, List, Option, Some, None}
use Rattle.wf_rejoin.specs.Replacements.{IsNoOlder, latest_of}
use Rattle.wf_rejoin.specs.declared.agreement.Asked.{Asked}
use Rattle.wf_rejoin.specs.declared.agreement.Objection.{Objection}
use Rattle.wf_rejoin.specs.declared.agreement.Objection.TheVariants as objections
use Rattle.wf_rejoin.specs.declared.replacement.Replacement.{Replacement}

-- for how many milliseconds a node has run, and has heard nothing of the one that is replaced
abbrev pub quiet_time : ℕ
quiet_time = 10000

abbrev pub IsLongAgo : Option ℕ → Type 0
IsLongAgo None = Unit {0}
IsLongAgo (Some silence) = quiet_time ≤ silence

pub record HasBeenQuiet (asked : Asked) : Type 0 where
  pub started : quiet_time ≤ asked.running
  pub heard : IsLongAgo asked.silence

-- the replacement was begun; no higher count is known, and no other folder under this count
pub record IsNewTo (known : Option Replacement) (r : Replacement) : Type 0 where
  pub begun : 1 ≤ r.count
  pub no_older : IsNoOlder known (Some r)

-- The asked node is another one than the replaced one, and votes; the replacement is new to it; and
-- it is quiet, unless it is forced.
pub record Agrees (known : List (Option Replacement)) (asked : Asked) (node : ℕ) (r : Replacement) (force : Bool) : Type 0 where
  pub other : asked.node ≢ node
  pub votes : asked.hindrance ≡ None
  pub is_new : IsNewTo (latest_of known node) r
  pub quiet : (force ≡ true) ⊎ HasBeenQuiet asked

-- it votes, and has agreed to the replacement, or was told of it
pub record AnswersJoiner (known : List (Option Replacement)) (asked : Asked) (node : ℕ) (r : Replacement) : Type 0 where
  pub votes : asked.hindrance ≡ None
  pub agreed : latest_of known node ≡ Some r

-- ---- what stands against it

-- in what is known: a replacement that wasn't begun, a higher count, or another folder under this
-- one
abbrev pub IsObjectionTo : Option Replacement → Replacement → Objection → Type 0
IsObjectionTo known r objections.NotBegun = r.count ≡ 0
IsObjectionTo known r (objections.Superseded k) = (known ≡ Some k) × (r.count < k.count)
IsObjectionTo known r (objections.OtherFolder k) = (known ≡ Some k) × (r.count ≡ k.count) × (r.mark ≢ k.mark)
IsObjectionTo known r why = ⊥

-- in time
abbrev pub IsObjectionNow : Asked → Objection → Type 0
IsObjectionNow asked objections.StartedRecently = asked.running < quiet_time
IsObjectionNow asked objections.HeardRecently = ¬ IsLongAgo asked.silence
IsObjectionNow asked why = ⊥

abbrev pub IsObjection : List (Option Replacement) → Asked → ℕ → Replacement → Bool → Objection → Type 0
IsObjection known asked node r force objections.Itself = asked.node ≡ node
IsObjection known asked node r force (objections.Hindered hindrance) = asked.hindrance ≡ Some hindrance
IsObjection known asked node r force objections.NotBegun = IsObjectionTo (latest_of known node) r objections.NotBegun
IsObjection known asked node r force (objections.Superseded k) = IsObjectionTo (latest_of known node) r (objections.Superseded k)
IsObjection known asked node r force (objections.OtherFolder k) = IsObjectionTo (latest_of known node) r (objections.OtherFolder k)
IsObjection known asked node r force objections.StartedRecently = (force ≡ false) × IsObjectionNow asked objections.StartedRecently
IsObjection known asked node r force objections.HeardRecently = (force ≡ false) × IsObjectionNow asked objections.HeardRecently

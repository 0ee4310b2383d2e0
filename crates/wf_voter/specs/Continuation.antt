-- The life of a process goes on.
use Rattle.std.specs.Prelude.{◌≡◌, ℕ, Bool, true, false, List, [], ◌∷◌, ◌++◌, Option, if◌then◌else◌}
use Rattle.wf_actor.specs.declared.actor.Actor.{Actor}
use Rattle.wf_actor.specs.declared.actor.Origin.{Origin}
use Rattle.wf_actor.specs.declared.actor.Origin.TheVariants as origins
use Rattle.wf_actor.specs.declared.process.Process.{Process}
use Rattle.wf_codec.specs.declared.message.Message.{Message}
use Rattle.wf_codec.specs.declared.message.Message.TheVariants as messages
use Rattle.wf_voter.specs.declared.voter.Voter.{Voter}
use Rattle.wf_codec.specs.Message.{view}
use Rattle.wf_voter.specs.Folder.{Stand}
use Rattle.wf_mail.specs.Mail.{IsFirstPart}
use Rattle.wf_membership.specs.declared.gate.Gate.TheVariants as gates
use Rattle.wf_node.specs.Reopening.{HasStoredAs}
use Rattle.wf_peer.specs.Told.{HearAll, IsHeardOf, IsHeardText}
use Rattle.wf_peer.specs.declared.heard.Heard.{Heard}
use Rattle.wf_tape.specs.declared.tape.Tape.{Ghosts as Tape}
use Rattle.wf_wire.specs.Post.{logged}

-- One run goes on: the tape from which the node was opened, and its number stay; the values that it
-- had, what was given to it, and what it returned only grow.
pub record IsLater {T : Type 0} (tapes : Tape T) (before after : Actor T tapes) : Type 0 where
  pub number : after.node.id ≡ before.node.id
  pub read_from : after.read_from.items ≡ before.read_from.items
  pub stood : IsFirstPart before.stood.items after.stood.items
  pub given : IsFirstPart before.given.items after.given.items
  pub emitted : IsFirstPart (logged before.emitted.items) (logged after.emitted.items)

-- The process goes on in its run: no other run began.
pub record StaysInRun {T : Type 0} (tapes : Tape T) (before after : Process T tapes) : Type 0 where
  pub actor : IsLater tapes before.actor after.actor
  pub among : after.n ≡ before.n
  pub ended : after.ended.items ≡ before.ended.items

-- It is suspended, and the node is as it was: it was given nothing, and returned no message.
pub record StaysSuspended {T : Type 0} {tapes : Tape T} (before after : Voter T tapes) : Type 0 where
  pub gate : after.gate ≡ gates.Suspended
  pub actor : after.process.actor ≡ before.process.actor

-- whether a message asks for what is published
abbrev pub is_ask : Message → Bool
is_ask (messages.Ask s) = true
is_ask _ = false

-- those of the messages that were given that don't
unfoldable pub besides_asks : List (Message × Origin) → List (Message × Origin)
besides_asks [] = []
besides_asks (m ∷ rest) = if is_ask m.0 then besides_asks rest else m ∷ besides_asks rest

-- whether a message says what is published
abbrev pub is_chosen : Message → Bool
is_chosen (messages.Chosen s d) = true
is_chosen _ = false

-- those of the messages that were given that don't
unfoldable pub besides_chosen : List (Message × Origin) → List (Message × Origin)
besides_chosen [] = []
besides_chosen (m ∷ rest) = if is_chosen m.0 then besides_chosen rest else m ∷ besides_chosen rest

-- those of the messages that were returned that don't ask for what is published
unfoldable pub besides_questions : List Message → List Message
besides_questions [] = []
besides_questions (m ∷ rest) = if is_ask m then besides_questions rest else m ∷ besides_questions rest

-- Meanwhile the node only learned: it was given no message but those that say what is published,
-- and returned none but those that ask for that.
pub record HasLearnt {T : Type 0} (tapes : Tape T) (before after : Actor T tapes) : Type 0 where
  pub given : besides_chosen after.given.items ≡ besides_chosen before.given.items
  pub returned : besides_questions (logged after.emitted.items) ≡ besides_questions (logged before.emitted.items)

-- ---- what is heard of a peer before its messages count

-- where a peer sent the message, its round and promise were heard of that peer
abbrev pub IsHeardFrom : List (Option Heard) → Message → Origin → Type 0
IsHeardFrom known m origins.Own = Unit {0}
IsHeardFrom known m (origins.Peer i stream) = IsHeardOf known i (view m)

-- so it is of each of the messages that were given
unfoldable pub AreHeardFrom : List (Option Heard) → List (Message × Origin) → Type 0
AreHeardFrom known [] = Unit {0}
AreHeardFrom known (m ∷ rest) = IsHeardFrom known m.0 m.1 × AreHeardFrom known rest

-- and of each of those that were given in runs that have ended
unfoldable pub AreRunsHeardFrom : {T : Type 0} (tapes : Tape T) → List (Option Heard) → List (Actor T tapes × ℕ) → Type 0
AreRunsHeardFrom tapes known [] = Unit {0}
AreRunsHeardFrom tapes known (run ∷ runs) = AreHeardFrom known run.0.given.items × AreRunsHeardFrom tapes known runs

-- The file `heard` has all that the voter takes it to have, and that is the round and the promise
-- of each message of a peer that the node was ever given.
pub record IsHeardKept {T : Type 0} {tapes : Tape T} (heard : Option (List ℕ)) (voter : Voter T tapes) : Type 0 where
  pub known : List (Option Heard)
  pub text : IsHeardText heard known
  pub all : HearAll voter.kept known
  pub given : AreHeardFrom voter.kept voter.process.actor.given.items
  pub ended : AreRunsHeardFrom tapes voter.kept voter.process.ended.items

-- ---- a turn and its parts

-- The process goes on in its run. Nothing of a suspended node changes. Whether it is outvoted
-- stays, and one that is was given no message but those that ask for what is published. What it
-- goes by of replacements stays, and one whose folder joins only learned. Whatever the file `heard`
-- has, it is enough if it was before.
pub record Continues {T : Type 0} (tapes : Tape T) (before after : Voter T tapes) : Type 0 where
  pub process : StaysInRun tapes before.process after.process
  pub suspended : before.gate ≡ gates.Suspended → StaysSuspended before after
  pub outvoted : after.is_outvoted ≡ before.is_outvoted
  pub asked : before.is_outvoted ≡ true → besides_asks after.process.actor.given.items ≡ besides_asks before.process.actor.given.items
  pub membership : after.membership ≡ before.membership
  pub learnt : before.membership.joins ≡ true → HasLearnt tapes before.process.actor after.process.actor
  pub kept : (heard : Option (List ℕ)) → IsHeardKept heard before → IsHeardKept heard after

-- It goes on so, while its folder is written to: the starts that it counts stay, and what the file
-- `heard` has is enough if it was before.
pub record ContinuesIn {T : Type 0} (tapes : Tape T) (stood : Stand) (before : Voter T tapes) (stands : Stand) (after : Voter T tapes) : Type 0 where
  pub process : StaysInRun tapes before.process after.process
  pub suspended : before.gate ≡ gates.Suspended → StaysSuspended before after
  pub outvoted : after.is_outvoted ≡ before.is_outvoted
  pub asked : before.is_outvoted ≡ true → besides_asks after.process.actor.given.items ≡ besides_asks before.process.actor.given.items
  pub membership : after.membership ≡ before.membership
  pub learnt : before.membership.joins ≡ true → HasLearnt tapes before.process.actor after.process.actor
  pub starts : stands.starts ≡ stood.starts
  pub begun : stands.begun ≡ stood.begun
  pub kept : IsHeardKept stood.heard before → IsHeardKept stands.heard after

-- The process goes on in its run, and is given nothing; whether it is outvoted, what it goes by of
-- replacements, and what the file `heard` has, stay.
pub record HasOnlyServed {T : Type 0} (tapes : Tape T) (before after : Voter T tapes) : Type 0 where
  pub process : StaysInRun tapes before.process after.process
  pub outvoted : after.is_outvoted ≡ before.is_outvoted
  pub membership : after.membership ≡ before.membership
  pub given : after.process.actor.given.items ≡ before.process.actor.given.items
  pub kept : after.kept ≡ before.kept

-- One run follows another: the tape of the first one's node had failed, and the other one's node,
-- which was just opened, is the node that it was. That was compared: it has stored what the first
-- one had, or that and the record of the step within which its tape failed.
pub record IsNextRun {T : Type 0} (tapes : Tape T) (run next : Actor T tapes) : Type 0 where
  pub halted : run.node.halted ≡ true
  pub number : next.node.id ≡ run.node.id
  pub among : next.node.n ≡ run.node.n
  pub stood : next.stood.items ≡ (next.node, 0) ∷ []
  pub stored : HasStoredAs run.node next.node

-- From that moment of a run on these are all runs of its process, those that have ended and the one
-- that it is in: the first is that run at a later moment, and each other one follows the one before
-- it.
abbrev pub AreRunsFrom : {T : Type 0} (tapes : Tape T) → Actor T tapes → List (Actor T tapes × ℕ) → Actor T tapes → Type 0
AreRunsFrom tapes actor [] now = IsLater tapes actor now
AreRunsFrom {T} tapes actor (run ∷ ended) now = IsLater tapes actor run.0 × (next : Actor T tapes) × IsNextRun tapes run.0 next × AreRunsFrom tapes next ended now

-- It is an earlier moment of the process: in its run, or in one that has ended since then.
pub record IsEarlier {T : Type 0} (tapes : Tape T) (before now : Process T tapes) : Type 0 where
  pub since : List (Actor T tapes × ℕ)
  pub ended : now.ended.items ≡ before.ended.items ++ since
  pub runs : AreRunsFrom tapes before.actor since now.actor

-- whatever was an earlier moment of the process still is
abbrev pub KeepsEarlier : {T : Type 0} (tapes : Tape T) → (before after : Process T tapes) → Type 0
KeepsEarlier {T} tapes before after = (past : Process T tapes) → IsEarlier tapes past before → IsEarlier tapes past after

-- What a node answers to a greeting, and its bytes.
use Rattle.std.specs.Prelude.{ℕ, zero, suc, ◌+◌, ◌==◌, nat_lt, List, [], ◌∷◌, ◌++◌, codes, get_or, if◌then◌else◌, length, Bool, true, false, Option, Some, None}
use Rattle.std.specs.Int.{w16, to_be_bytes}
use Rattle.wf_peer.specs.Greeting.{IsGreeting, IsProgress, greeting_bytes, greeting_length, peer_version, progress_bytes}
use Rattle.wf_peer.specs.declared.progress.Progress.{Progress}
use Rattle.wf_peer.specs.declared.rejection.PeerRejection.{PeerRejection}
use Rattle.wf_peer.specs.declared.rejection.PeerRejection.TheVariants as causes
use Rattle.wf_peer.specs.declared.reply.GreetingReply.{GreetingReply}
use Rattle.wf_peer.specs.declared.reply.GreetingReply.TheVariants as replies

abbrev pub rejection_byte : PeerRejection → ℕ
rejection_byte causes.OtherFarm = 1
rejection_byte causes.OtherNodes = 2
rejection_byte causes.OtherNode = 3
rejection_byte causes.OtherMark = 4
rejection_byte causes.OlderStart = 5
rejection_byte causes.OtherLife = 6
rejection_byte causes.LowerRound = 7
rejection_byte causes.LowerPromise = 8
rejection_byte causes.LowerSequence = 9
rejection_byte causes.OtherHistory = 10
rejection_byte causes.LowerVote = 11
rejection_byte causes.NotBegun = 12
rejection_byte causes.NotTold = 13
rejection_byte causes.Retired = 14

-- what each rejection begins with, the version (2 bytes), the cause (1), and what is remembered of
-- the peer: 0, or 1 and its progress
abbrev pub rejection_mark : List ℕ
rejection_mark = codes "wf-nope\n"

abbrev pub IsProgressOrNone : Option Progress → Type 0
IsProgressOrNone None = Unit {0}
IsProgressOrNone (Some p) = IsProgress p

abbrev pub remembered_bytes : Option Progress → List ℕ
remembered_bytes None = 0 ∷ []
remembered_bytes (Some p) = 1 ∷ progress_bytes p

abbrev pub cause_bytes : PeerRejection → List ℕ
cause_bytes why = rejection_mark ++ (to_be_bytes w16 peer_version ++ rejection_byte why ∷ [])

unfoldable pub rejection_bytes : PeerRejection → Option Progress → List ℕ
rejection_bytes why remembered = cause_bytes why ++ remembered_bytes remembered

abbrev pub IsGreetingReply : GreetingReply → Type 0
IsGreetingReply (replies.Greeting g) = IsGreeting g
IsGreetingReply (replies.Rejected why remembered) = IsProgressOrNone remembered

abbrev pub reply_bytes : GreetingReply → List ℕ
reply_bytes (replies.Greeting g) = greeting_bytes g
reply_bytes (replies.Rejected why remembered) = rejection_bytes why remembered

-- ---- the number of its bytes

-- of what is remembered, by its first byte
abbrev pub remembered_length : ℕ → ℕ
remembered_length zero = 1
remembered_length (suc tag) = 55

-- of the reply that begins so: by its sixth byte it is a rejection, or a greeting; while fewer than
-- twelve are there, these are its least
abbrev pub reply_length : List ℕ → ℕ
reply_length bytes = if nat_lt (length bytes) 12 then 12 else if get_or bytes 5 0 == 112 then 11 + remembered_length (get_or bytes 11 0) else greeting_length bytes

-- a node that is told this has forgotten something, runs on a copy, or is retired
abbrev pub EndsANode : PeerRejection → Type 0
EndsANode causes.OtherMark = Unit {0}
EndsANode causes.OlderStart = Unit {0}
EndsANode causes.OtherLife = Unit {0}
EndsANode causes.LowerRound = Unit {0}
EndsANode causes.LowerPromise = Unit {0}
EndsANode causes.LowerVote = Unit {0}
EndsANode causes.LowerSequence = Unit {0}
EndsANode causes.Retired = Unit {0}
EndsANode _ = ⊥

-- it is kept as an accusation of the folder of which more was heard before
abbrev pub accuses : PeerRejection → Bool
accuses causes.OlderStart = true
accuses causes.OtherLife = true
accuses causes.LowerRound = true
accuses causes.LowerPromise = true
accuses causes.LowerVote = true
accuses causes.LowerSequence = true
accuses _ = false

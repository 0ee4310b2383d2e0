-- The words with which lines begin.
use Rattle.std.specs.Prelude.{ℕ, List, codes, Option, Some, None, if◌then◌else◌}
use Rattle.std.specs.Str.{bytes_eq}
use Rattle.wf_script.specs.declared.verb.Verb.{Verb}
use Rattle.wf_script.specs.declared.verb.Verb.TheVariants as verb

-- the verb that this word is, if it is one
unfoldable pub verb_of : List ℕ → Option Verb
verb_of word =
    if bytes_eq word (codes "map") then Some verb.Map
    else if bytes_eq word (codes "propose") then Some verb.Propose
    else if bytes_eq word (codes "retry") then Some verb.Retry
    else if bytes_eq word (codes "catchup") then Some verb.CatchUp
    else if bytes_eq word (codes "deliver") then Some verb.Deliver
    else if bytes_eq word (codes "cut") then Some verb.Cut
    else if bytes_eq word (codes "stop") then Some verb.Stop
    else if bytes_eq word (codes "restart") then Some verb.Restart
    else if bytes_eq word (codes "torn") then Some verb.Torn
    else if bytes_eq word (codes "pump") then Some verb.Pump
    else if bytes_eq word (codes "skip") then Some verb.Skip
    else if bytes_eq word (codes "published") then Some verb.Published
    else if bytes_eq word (codes "sent") then Some verb.Sent
    else if bytes_eq word (codes "proposal") then Some verb.Proposal
    else if bytes_eq word (codes "definition") then Some verb.Definition
    else if bytes_eq word (codes "same") then Some verb.Same
    else if bytes_eq word (codes "get") then Some verb.Get
    else if bytes_eq word (codes "equal") then Some verb.Equal
    else None

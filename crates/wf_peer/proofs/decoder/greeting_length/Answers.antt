-- The number of replaced nodes is where it is read.
use Rattle.std.proofs.Common.{◌≡◌, ◌∙◌, ◌≤◌, ◌+◌, ℕ, List, true, length, sym, arith}
use Rattle.std.specs.Prelude.{ltb}
use Rattle.std.proofs.lemmas.Bool.{ltb-true}
use Rattle.std.proofs.lemmas.List.{get_or_default}
use Rattle.wf_peer.specs.Greeting.{greeting_bytes}
use Rattle.wf_peer.specs.declared.greeting.Greeting.{Greeting}
use Rattle.wf_peer.proofs.Bodies.{at_least, count_whole}
use Rattle.wf_peer.proofs.decoder.greeting_length.Goals as goal

far : (bytes : List ℕ) → ltb 131 (length bytes) ≡ true → 132 ≤ length bytes
far bytes there = omega (arith, ltb-true 131 (length bytes) there)

at_most : (g : Greeting) (n : ℕ) → 132 + n ≡ length (greeting_bytes g) → 132 + n ≤ length (greeting_bytes g)
at_most g n same = omega (arith, same)

pub returns-in-Some-clause-whole : goal.returns-in-Some-clause-whole
returns-in-Some-clause-whole c = λ g more rest is e whole. count_whole c.args.bytes.now more rest g c.from.result c.told_length.result is e whole (c.from.ensures ∙ c.in-Some.ensures.lookup.1 ∙ get_or_default c.args.bytes.now 131 _ 0 (ltb-true 131 (length c.args.bytes.now) (sym c.in-Some.ensures.lookup.0))) c.told_length.ensures

pub returns-in-Some-clause-within : goal.returns-in-Some-clause-within
returns-in-Some-clause-within c = λ g more rest is e. at_most g c.told_length.result (returns-in-Some-clause-whole c g more rest is e (far c.args.bytes.now (sym c.in-Some.ensures.lookup.0)))

pub returns-in-None-clause-within : goal.returns-in-None-clause-within
returns-in-None-clause-within c = λ g more rest is e. at_least g is

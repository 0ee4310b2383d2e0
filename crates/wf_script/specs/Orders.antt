-- Which order a line is.
use Rattle.std.specs.Prelude.{ℕ, List, [], ◌∷◌, codes, Option, Result, Ok, Err, if◌then◌else◌}
use Rattle.std.specs.List.{position}
use Rattle.std.specs.Option.{ok_or}
use Rattle.std.specs.Str.{bytes_eq}
use Rattle.wf_model.specs.declared.action.Action.{Action}
use Rattle.wf_model.specs.declared.action.Action.TheVariants as action
use Rattle.wf_model.specs.declared.action.Kept.{Kept}
use Rattle.wf_model.specs.declared.action.Kept.TheVariants as kept
use Rattle.wf_script.specs.Order.{Order}
use Rattle.wf_script.specs.Order as order
use Rattle.wf_script.specs.ReadContract.{◌>>=◌}
use Rattle.wf_script.specs.Verb.{verb_of}
use Rattle.wf_script.specs.Words.{a_number, a_text, a_word, no_word, number}
use Rattle.wf_script.specs.declared.fault.Wrong.{Wrong}
use Rattle.wf_script.specs.declared.fault.Wrong.TheVariants.{BadLine}
use Rattle.wf_script.specs.declared.order.FarmQuestion.TheVariants as question
use Rattle.wf_script.specs.declared.verb.Verb.{Verb}
use Rattle.wf_script.specs.declared.verb.Verb.TheVariants as verb

-- the map of this name, by its index among the names
abbrev pub index_of : List (List ℕ) → List ℕ → Option ℕ
index_of names name = position (λ other. bytes_eq other name) names

-- the map that the first word names
unfoldable pub a_map : List (List ℕ) → List (List ℕ) → Result (ℕ × List (List ℕ)) Wrong
a_map names words = do
  name ← a_text words
  map ← ok_or (index_of names name.0) BadLine
  Ok (map, name.1)

-- the numbers that all words are
unfoldable pub numbers : List (List ℕ) → Result (List ℕ) Wrong
numbers [] = Ok []
numbers (word ∷ rest) = do
  n ← number word
  others ← numbers rest
  Ok (n ∷ others)

-- the numbers that all words are, one at least
unfoldable pub some_numbers : List (List ℕ) → Result (List ℕ) Wrong
some_numbers [] = Err BadLine
some_numbers (word ∷ rest) = numbers (word ∷ rest)

-- whether a crash within a step leaves what was stored before the step or after it
abbrev pub kept_of : List ℕ → Result Kept Wrong
kept_of word = if bytes_eq word (codes "before") then Ok kept.Before else if bytes_eq word (codes "after") then Ok kept.After else Err BadLine

unfoldable pub a_kept : List (List ℕ) → Result (Kept × List (List ℕ)) Wrong
a_kept words = do
  word ← a_text words
  part ← kept_of word.0
  Ok (part, word.1)

-- the step that a verb and the words after it make, of a node whose number has been read: the node
-- may crash within it
unfoldable pub step_by : List (List ℕ) → Verb → List (List ℕ) → Result (Action ℕ ℕ × List (List ℕ)) Wrong
step_by names verb.Propose words = do
  map ← a_map names words
  Ok (action.Propose map.0, map.1)
step_by names verb.Retry words = Ok (action.Retry, words)
step_by names verb.CatchUp words = Ok (action.CatchUp, words)
step_by names verb.Deliver words = do
  message ← a_number words
  Ok (action.Deliver message.0, message.1)
step_by names _ words = Err BadLine

unfoldable pub a_step : List (List ℕ) → List (List ℕ) → Result (Action ℕ ℕ × List (List ℕ)) Wrong
a_step names words = do
  word ← a_text words
  verb ← ok_or (verb_of word.0) BadLine
  step_by names verb word.1

-- an order about a node: the node's number, and what follows it
unfoldable pub step_order : List (List ℕ) → Verb → List (List ℕ) → Result (Order × List (List ℕ)) Wrong
step_order names verb words = do
  node ← a_number words
  step ← step_by names verb node.1
  Ok (order.Step node.0 step.0, step.1)

unfoldable pub deliver_order : List (List ℕ) → Result (Order × List (List ℕ)) Wrong
deliver_order words = do
  node ← a_number words
  messages ← some_numbers node.1
  Ok (order.Deliver node.0 messages, [])

unfoldable pub cut_order : List (List ℕ) → Result (Order × List (List ℕ)) Wrong
cut_order words = do
  node ← a_number words
  message ← a_number node.1
  bytes ← a_number message.1
  Ok (order.Cut node.0 message.0 bytes.0, bytes.1)

unfoldable pub torn_order : List (List ℕ) → List (List ℕ) → Result (Order × List (List ℕ)) Wrong
torn_order names words = do
  node ← a_number words
  part ← a_kept node.1
  step ← a_step names part.1
  Ok (order.Torn node.0 step.0 part.0, step.1)

unfoldable pub pump_order : List (List ℕ) → Result (Order × List (List ℕ)) Wrong
pump_order words = do
  nodes ← numbers words
  Ok (order.Pump nodes, [])

unfoldable pub proposal_order : List (List ℕ) → Result (Order × List (List ℕ)) Wrong
proposal_order words = do
  node ← a_number words
  Ok (order.Ask (question.Proposal node.0), node.1)

unfoldable pub definition_order : List (List ℕ) → Result (Order × List (List ℕ)) Wrong
definition_order words = do
  node ← a_number words
  sequence ← a_number node.1
  Ok (order.Ask (question.Definition node.0 sequence.0), sequence.1)

unfoldable pub get_order : List (List ℕ) → Result (Order × List (List ℕ)) Wrong
get_order words = do
  node ← a_number words
  query ← a_word node.1
  Ok (order.Get node.0 query.0, query.1)

unfoldable pub equal_order : List (List ℕ) → Result (Order × List (List ℕ)) Wrong
equal_order words = do
  node ← a_number words
  other ← a_number node.1
  query ← a_word other.1
  Ok (order.Equal node.0 other.0 query.0, query.1)

unfoldable pub stop_order : List (List ℕ) → Result (Order × List (List ℕ)) Wrong
stop_order words = do
  node ← a_number words
  Ok (order.Stop node.0, node.1)

unfoldable pub restart_order : List (List ℕ) → Result (Order × List (List ℕ)) Wrong
restart_order words = do
  node ← a_number words
  Ok (order.Restart node.0, node.1)

-- The order that a verb and the words after it make, and what is left of them. A map is named among
-- those so far.
unfoldable pub order_by : List (List ℕ) → Verb → List (List ℕ) → Result (Order × List (List ℕ)) Wrong
order_by names verb.Map words = Err BadLine
order_by names verb.Propose words = step_order names verb.Propose words
order_by names verb.Retry words = step_order names verb.Retry words
order_by names verb.CatchUp words = step_order names verb.CatchUp words
order_by names verb.Deliver words = deliver_order words
order_by names verb.Cut words = cut_order words
order_by names verb.Stop words = stop_order words
order_by names verb.Restart words = restart_order words
order_by names verb.Torn words = torn_order names words
order_by names verb.Pump words = pump_order words
order_by names verb.Skip words = Ok (order.Skip, words)
order_by names verb.Published words = Ok (order.Ask question.Published, words)
order_by names verb.Sent words = Ok (order.Ask question.Sent, words)
order_by names verb.Proposal words = proposal_order words
order_by names verb.Definition words = definition_order words
order_by names verb.Same words = Ok (order.Ask question.Same, words)
order_by names verb.Get words = get_order words
order_by names verb.Equal words = equal_order words

-- the order that these are all the words of, the first being a verb
unfoldable pub order_of : List (List ℕ) → Verb → List (List ℕ) → Result Order Wrong
order_of names verb words = do
  order ← order_by names verb words
  end ← no_word order.1
  Ok order.0

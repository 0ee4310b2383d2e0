-- What an asked node says of its stored state.
use Rattle.std.specs.Prelude.{◌≡◌, ℕ, ◌<◌, ◌≤◌, max, None}
use Rattle.wf_model.specs.DurableState.{DurableState, published}
use Rattle.wf_rejoin.specs.declared.answer.Answer.{Answer}

-- the last sequence at which the node had published or voted
abbrev pub highest : Answer → ℕ
highest a = max a.published a.voted

-- The answer is about this stored state: it has published no more, and has no vote after that one.
pub record IsAbout {V : Type 0} (stored : DurableState V) (a : Answer) : Type 0 where
  pub published_to : published stored ≤ a.published
  pub voted_to : (s : ℕ) → a.voted < s → stored.votes s ≡ None

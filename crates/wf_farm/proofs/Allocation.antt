-- An allocation fails only at an event that has an effect.
use Rattle.std.proofs.Common.{◌≡◌, ◌∙◌, ℕ, is_none, List, map, take, slice_get, Some, option_map, sym, ap, subst}
use Rattle.wf_farm.proofs.Common.{slice_get-map, Message, Definition, definition_eq, Action, steps, TapeValue, Running, Stopped, IsStopped, MayAllocate, MayAllocateAt, MayAllocateIn, TakesStep, is_stopped, may_allocate, Moves, view, MemoryHost}
use Rattle.wf_model.specs.World as world
use Rattle.wf_farm.specs.declared.event.Event as declared
use Rattle.wf_farm.proofs.Events.{node_at}

-- ---- an event that may allocate

module _ (hosts : List MemoryHost) (sent : List Message) (i : ℕ) where
  pub may_step : (action : Action Definition ℕ) → MayAllocate (world.Act i action) hosts sent → TakesStep i action hosts sent
  unfolding TakesStep MayAllocate may_allocate
  may_step action may = may

  -- A stopped node restarts.
  pub restart_may : (host : MemoryHost) → slice_get hosts i ≡ Some host → IsStopped host → MayAllocate (world.Restart i) hosts sent
  unfolding MayAllocate may_allocate
  restart_may (Running node) at stopped = absurd stopped
  restart_may (Stopped tape) at stopped = λ w refines.
      let there = node_at hosts w.nodes i (Stopped tape) refines.nodes at in
      ap is_stopped there.1 ∙ ap is_none there.2.0

pub stopped_there : (host : MemoryHost) (tape : TapeValue) → host ≡ Stopped tape → IsStopped host
stopped_there host tape is = subst IsStopped (sym is) tt

-- ---- runs

module _ (hosts middle : List MemoryHost) (sent outputs : List Message) where
  -- the next event of a run
  pub next_may : (events : List declared.Event) (done : ℕ) (event : declared.Event) → slice_get events done ≡ Some event → Moves (take done (map view events)) hosts sent middle outputs →
      MayAllocate (view event) middle outputs → MayAllocateAt done (map view events) hosts sent
  unfolding Moves MayAllocate MayAllocateAt
  next_may events done event at moves may = λ w refines.
      let so_far = steps definition_eq w (take done (map view events)) in
      subst (MayAllocateIn so_far) (sym (slice_get-map view events done ∙ ap (λ x. option_map view x) at)) (may so_far (moves w refines))

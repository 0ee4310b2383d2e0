-- Runs in which one step may be torn: one event more.
use Rattle.std.proofs.Common.{◌≡◌, ◌∙◌, ℕ, zero, suc, ◌+◌, ◌<◌, ◌≤◌, Bool, true, false, List, [], ◌∷◌, ◌++◌, map, length, take, drop, get_or, slice_get, Option, Some, None, Result, Ok, Err, IfOk, OnErr, refl, sym, ap, subst, arith, length-append, if◌then◌else◌, ◌==◌, inl, inr}
use Rattle.wf_farm.proofs.Common.{cases_eq, append-nil, append_assoc, none-some, same_Some, slice_get_within, Message, Definition, definition_eq, Event, deliver, refused, steps, Kept, CarrierFault, Happened, PumpEnd, PumpProgress, Rejection, MayAllocate, MayAllocateAt, KeepMembers, Moves, StayShown, ReportsWhy, last_rejected, view, reported, FailsOnly, AddsEvent, HappensAs, HasFaredTo, HaveFared, HaveRun, IsArmed, IsHappened, IsStepOf, IsStepOfNode, IsStepOfWatched, IsWatchedStep, Stands, TearsOnly, ReportsLast, ReportsUnless, ReportsWhyUnlessTorn, crash_at, torn_at, with_torn, MemoryHost, IsMade, next, NextMayAllocate, begun, deliveries, most_deliveries}
use Rattle.wf_model.specs.Kept.{view as view_kept}
use Rattle.wf_model.specs.World as world
use Rattle.wf_farm.specs.declared.event.Event as declared
use Rattle.wf_farm.specs.declared.progress.PumpEnd.TheVariants as end_case
use Rattle.wf_farm.proofs.Allocation.{next_may}
use Rattle.wf_farm.proofs.Carried.{stays_moves}
use Rattle.wf_delivery.proofs.DeliveryCount.{begun_most}
use Rattle.wf_delivery.proofs.Rounds.{no_deliveries, one_more, whole_round}
use Rattle.wf_farm.proofs.Runs.{last_more, stays_run, take_more}
use Rattle.wf_farm.proofs.TriedEvents.{absent_armed, moves_then}
use Rattle.wf_farm.proofs.Worlds.{sturdy_on}

-- ---- lists with one event more

at_before : (events : List (Event Definition)) (last : Event Definition) (k : ℕ) (event : Event Definition) → slice_get events k ≡ Some event → slice_get (events ++ last ∷ []) k ≡ Some event
at_before [] last k event at = absurd (none-some event at)
at_before (x ∷ events) last zero event at = at
at_before (x ∷ events) last (suc k) event at = at_before events last k event at

at_last : (events : List (Event Definition)) (last : Event Definition) → slice_get (events ++ last ∷ []) (length events) ≡ Some last
at_last [] last = refl
at_last (x ∷ events) last = at_last events last

-- What is torn isn't the first event.
torn_later : (x : Event Definition) (events : List (Event Definition)) (k : ℕ) (kept : world.Kept) → torn_at (x ∷ events) (suc k) kept ≡ x ∷ torn_at events k kept
torn_later x events k kept =
    let one : suc k + 1 ≡ suc (k + 1) = omega arith in
    ap (λ n. x ∷ (take k events ++ crash_at kept (slice_get events k)) ++ drop n (x ∷ events)) one

-- What is torn is one of the events so far, or the last one.
torn_before : (events : List (Event Definition)) (last : Event Definition) (k : ℕ) (kept : world.Kept) (event : Event Definition) → slice_get events k ≡ Some event →
    torn_at (events ++ last ∷ []) k kept ≡ torn_at events k kept ++ last ∷ []
torn_before [] last k kept event at = absurd (none-some event at)
torn_before (x ∷ events) last zero kept event at = sym (append_assoc (crash_at kept (Some x)) events (last ∷ []))
torn_before (x ∷ events) last (suc k) kept event at =
    torn_later x (events ++ last ∷ []) k kept
    ∙ ap (λ rest. x ∷ rest) (torn_before events last k kept event at)
    ∙ ap (λ all. all ++ last ∷ []) (sym (torn_later x events k kept))

torn_last : (events : List (Event Definition)) (last : Event Definition) (kept : world.Kept) → torn_at (events ++ last ∷ []) (length events) kept ≡ events ++ crash_at kept (Some last)
torn_last [] last kept = append-nil (crash_at kept (Some last))
torn_last (x ∷ events) last kept = torn_later x (events ++ last ∷ []) (length events) kept ∙ ap (λ rest. x ∷ rest) (torn_last events last kept)

-- ---- one event more

one_moves : (event : Event Definition) (hosts after : List MemoryHost) (sent more : List Message) → HappensAs event None hosts sent after more → Moves (event ∷ []) hosts sent after more
unfolding Moves steps
one_moves event hosts after sent more reaches = reaches

-- What is torn is a step of the watched node, since no other tape fails.
module _ (event : Event Definition) (kept : Kept) (hosts : List MemoryHost) (tears : TearsOnly (Some kept) event hosts) where
  pub watched_step : (watched : Option ℕ) → FailsOnly watched hosts → IsWatchedStep watched event
  unfolding FailsOnly
  watched_step None sturdy = tears.2.2 (sturdy tears.0 tears.2.0 tears.2.1 (λ is. none-some tears.0 is))
  watched_step (Some i) sturdy = elim (cases_eq i tears.0) [
    | inl same ↦ subst (λ k. IsStepOf k event) (sym same) tears.1
    | inr differs ↦ absurd (tears.2.2 (sturdy tears.0 tears.2.0 tears.2.1 (λ is. differs (same_Some i tears.0 is))))
  ]

  -- So nothing was torn before.
  pub none_before : (watched : Option ℕ) (torn : Option (ℕ × Kept)) → IsArmed watched torn hosts → torn ≡ None
  none_before watched None armed = refl
  none_before watched (Some torn) armed = absurd (watched_step None armed)

  pub fails_before : (watched : Option ℕ) (torn : Option (ℕ × Kept)) → IsArmed watched torn hosts → FailsOnly watched hosts
  fails_before watched torn armed = subst (λ t. IsArmed watched t hosts) (none_before watched torn armed) armed

-- where no tape may fail, nothing was torn
pub none_torn : (event : Event Definition) (torn : Option Kept) (hosts : List MemoryHost) → FailsOnly None hosts → TearsOnly torn event hosts → torn ≡ None
none_torn event None hosts sturdy tears = refl
none_torn event (Some kept) hosts sturdy tears = absurd (watched_step event kept hosts tears None sturdy)

module _ (watched : Option ℕ) (k : ℕ) (event : Event Definition) (hosts after : List MemoryHost) (sent more : List Message) where
  goes_whole : (torn : Option (ℕ × Kept)) → HappensAs event None hosts sent after more → AddsEvent watched k event torn torn hosts sent after more
  goes_whole None reaches = reaches
  goes_whole (Some torn) reaches = (refl, reaches)

  -- an event of which nothing was torn
  pub went_whole : (torn : Option (ℕ × Kept)) (what : Option Kept) → what ≡ None → HappensAs event what hosts sent after more → AddsEvent watched k event torn torn hosts sent after more
  went_whole torn what none reaches = goes_whole torn (subst (λ w. HappensAs event w hosts sent after more) none reaches)

  goes_torn : (kept : Kept) (torn : Option (ℕ × Kept)) → torn ≡ None → IsWatchedStep watched event → HappensAs event (Some kept) hosts sent after more → AddsEvent watched k event torn (Some (k, kept)) hosts sent after more
  goes_torn kept torn none step reaches = subst (λ t. AddsEvent watched k event t (Some (k, kept)) hosts sent after more) (sym none) (refl, step, reaches)

  -- One that was torn, after which the tape doesn't fail any more.
  pub went_torn : (kept : Kept) (torn : Option (ℕ × Kept)) (middle : List MemoryHost) (outputs : List Message) → IsArmed watched torn hosts → TearsOnly (Some kept) event hosts → HappensAs event (Some kept) hosts sent middle outputs →
      StayShown middle outputs after more → AddsEvent watched k event torn (Some (k, kept)) hosts sent after more
  went_torn kept torn middle outputs armed tears reaches stays =
      goes_torn kept torn (none_before event kept hosts tears watched torn armed) (watched_step event kept hosts tears watched (fails_before event kept hosts tears watched torn armed))
      (stays_run (crash_at (view_kept kept) (Some event)) hosts middle after sent outputs more reaches stays)

  -- why it was rejected, if it was
  why_whole : (what : Option Kept) (why : Option Rejection) → what ≡ None → ReportsUnless (λ w. refused w event) what why hosts sent → ReportsWhyUnlessTorn event None why hosts sent
  why_whole what why none reports = subst (λ t. ReportsUnless (λ w. refused w event) t why hosts sent) none reports

  pub reported_whole : (torn : Option (ℕ × Kept)) (what : Option Kept) (why : Option Rejection) → torn ≡ None → what ≡ None → ReportsUnless (λ w. refused w event) what why hosts sent → ReportsWhyUnlessTorn event torn why hosts sent
  reported_whole torn what why not none reports = subst (λ t. ReportsWhyUnlessTorn event t why hosts sent) (sym not) (why_whole what why none reports)

-- the tapes after an event
pub armed_on : (watched : Option ℕ) (torn : Option (ℕ × Kept)) (hosts after : List MemoryHost) → KeepMembers hosts after → IsArmed watched torn hosts → IsArmed watched torn after
armed_on watched None hosts after keeps armed = sturdy_on watched hosts after keeps armed
armed_on watched (Some torn) hosts after keeps armed = sturdy_on None hosts after keeps armed

pub armed_watched : (watched : Option ℕ) (torn : Option (ℕ × Kept)) (hosts : List MemoryHost) → IsArmed watched torn hosts → FailsOnly watched hosts
armed_watched watched None hosts armed = armed
armed_watched watched (Some torn) hosts armed = absent_armed hosts watched armed

-- ---- runs

-- Nothing has happened yet.
pub none_fared : (watched : Option ℕ) (hosts : List MemoryHost) (sent : List Message) → HaveFared watched [] None hosts sent hosts sent
unfolding Moves steps
none_fared watched hosts sent = record { moves = λ w refines. refines; step = tt }

module _ (watched : Option ℕ) (events : List (Event Definition)) (event : Event Definition) (hosts middle after : List MemoryHost) (sent outputs more : List Message) where
  -- One event more.
  pub fared_on : (k : ℕ) (torn now : Option (ℕ × Kept)) → k ≡ length events → HaveFared watched events torn hosts sent middle outputs → AddsEvent watched k event torn now middle outputs after more →
      HaveFared watched (events ++ event ∷ []) now hosts sent after more
  fared_on k (Some torn) now long fared goes =
      let at : slice_get events torn.0 ≡ Some fared.step.0 = fared.step.1 in
      subst (λ t. HaveFared watched (events ++ event ∷ []) t hosts sent after more) (sym goes.0) (record {
        moves = subst (λ es. Moves es hosts sent after more) (sym (torn_before events event torn.0 (view_kept torn.1) fared.step.0 at))
            (moves_then (torn_at events torn.0 (view_kept torn.1)) (event ∷ []) hosts middle after sent outputs more fared.moves (one_moves event middle after outputs more goes.1));
        step = (fared.step.0, at_before events event torn.0 fared.step.0 at, fared.step.2);
      })
  fared_on k None None long fared goes = record {
    moves = moves_then events (event ∷ []) hosts middle after sent outputs more fared.moves (one_moves event middle after outputs more goes);
    step = tt;
  }
  fared_on k None (Some now) long fared goes =
      let last : length events ≡ now.0 = sym (goes.0 ∙ long) in
      record {
        moves = subst (λ n. Moves (torn_at (events ++ event ∷ []) n (view_kept now.1)) hosts sent after more) last
            (subst (λ es. Moves es hosts sent after more) (sym (torn_last events event (view_kept now.1)))
            (moves_then events (crash_at (view_kept now.1) (Some event)) hosts middle after sent outputs more fared.moves goes.2));
        step = (event, subst (λ n. slice_get (events ++ event ∷ []) n ≡ Some event) last (at_last events event), goes.1);
      }

  -- Why it was rejected is why the last one was.
  pub reported_on : (torn now : Option (ℕ × Kept)) (k : ℕ) (why : Option Rejection) → HaveFared watched events torn hosts sent middle outputs → AddsEvent watched k event torn now middle outputs after more →
      (torn ≡ None → ReportsWhyUnlessTorn event now why middle outputs) → ReportsLast (events ++ event ∷ []) now why hosts sent
  unfolding Moves
  reported_on (Some torn) now k why fared goes reports = subst (λ t. ReportsLast (events ++ event ∷ []) t why hosts sent) (sym goes.0)
      (λ last. absurd (omega (arith, last, length-append events (event ∷ []), slice_get_within events torn.0 fared.step.0 fared.step.1)))
  reported_on None (Some now) k why fared goes reports = λ last. reports refl
  reported_on None None k why fared goes reports = λ w refines. reports refl (steps definition_eq w events) (fared.moves w refines) ∙ sym (ap reported (last_more w events event))

-- Where no tape fails, nothing was torn.
pub whole_events : (events : List (Event Definition)) (torn : Option (ℕ × Kept)) → IsStepOfWatched None events torn → torn ≡ None
whole_events events None step = refl
whole_events events (Some torn) step = absurd step.2

pub whole_moves : (watched : Option ℕ) (events : List (Event Definition)) (torn : Option (ℕ × Kept)) (hosts after : List MemoryHost) (sent more : List Message) → watched ≡ None → HaveFared watched events torn hosts sent after more →
    Moves events hosts sent after more
whole_moves watched events torn hosts after sent more none fared =
    subst (λ t. Moves (with_torn events t) hosts sent after more) (whole_events events torn (subst (λ i. IsStepOfWatched i events torn) none fared.step)) fared.moves

pub whole_last : (watched : Option ℕ) (events : List (Event Definition)) (torn : Option (ℕ × Kept)) (rejection : Option Rejection) (hosts after : List MemoryHost) (sent more : List Message) → watched ≡ None →
    HaveRun watched events torn rejection hosts sent after more → ReportsWhy (λ w. last_rejected w events) rejection hosts sent
whole_last watched events torn rejection hosts after sent more none ran =
    subst (λ t. ReportsLast events t rejection hosts sent) (whole_events events torn (subst (λ i. IsStepOfWatched i events torn) none ran.fared.step)) ran.why

-- the tape of one node may fail
step_of_node : (i : ℕ) (events : List (Event Definition)) (torn : Option (ℕ × Kept)) → IsStepOfWatched (Some i) events torn → IsStepOfNode i events torn
step_of_node i events None step = tt
step_of_node i events (Some torn) step = step

pub node_step : (watched : Option ℕ) (i : ℕ) (events : List (Event Definition)) (torn : Option (ℕ × Kept)) → watched ≡ Some i → IsStepOfWatched watched events torn → IsStepOfNode i events torn
node_step watched i events torn is step = step_of_node i events torn (subst (λ w. IsStepOfWatched w events torn) is step)

-- A farm whose node's tape may fail, after a run and once its tape doesn't fail any more.
pub laid_moves : (events : List (Event Definition)) (armed middle after hosts : List MemoryHost) (sent outputs received more : List Message) → StayShown hosts sent armed outputs → Moves events armed outputs middle received → StayShown middle received after more →
    Moves events hosts sent after more
unfolding Moves StayShown
laid_moves events armed middle after hosts sent outputs received more first moves last = λ w refines. last (steps definition_eq w events) (moves w (first w refines))

-- One event of a farm whose tapes don't fail, or none.
module _ (event : Event Definition) (hosts after : List MemoryHost) (sent more : List Message) (sturdy : FailsOnly None hosts) where
  pub happened_moves : (what : Happened) → TearsOnly what.torn event hosts → IsHappened event what hosts sent after more → Moves (event ∷ []) hosts sent after more
  happened_moves what tears happened = one_moves event hosts after sent more (subst (λ t. HappensAs event t hosts sent after more) (none_torn event what.torn hosts sturdy tears) happened.reaches)

  pub moves_some : (result : Result Happened CarrierFault) → IfOk result (λ what. TearsOnly what.torn event hosts) → IfOk result (λ what. IsHappened event what hosts sent after more) → OnErr result (StayShown hosts sent after more) →
      (events : List (Event Definition)) × Moves events hosts sent after more
  moves_some (Ok what) tears happened stays = (event ∷ [], happened_moves what tears happened)
  moves_some (Err fault) tears happened stays = ([], stays_moves hosts after sent more stays)

-- ---- runs of a list of events

module _ (watched : Option ℕ) (events : List declared.Event) (done more_done : ℕ) (event : declared.Event) (hosts middle after : List MemoryHost) (sent outputs more : List Message) (one : more_done ≡ suc done) (at : slice_get events done ≡ Some event) where
  more_events : take more_done (map view events) ≡ take done (map view events) ++ view event ∷ []
  more_events = ap (λ k. take k (map view events)) one ∙ take_more events done event at

  pub next_run : (torn now : Option (ℕ × Kept)) (why last : Option Rejection) → HaveRun watched (take done (map view events)) torn last hosts sent middle outputs → AddsEvent watched done (view event) torn now middle outputs after more →
      (torn ≡ None → ReportsWhyUnlessTorn (view event) now why middle outputs) → HaveRun watched (take more_done (map view events)) now why hosts sent after more
  next_run torn now why last ran goes reports = subst (λ es. HaveRun watched es now why hosts sent after more) (sym more_events) (record {
    fared = fared_on watched (take done (map view events)) (view event) hosts middle after sent outputs more done torn now (long_so_far events done event at) ran.fared goes;
    why = reported_on watched (take done (map view events)) (view event) hosts middle after sent outputs more torn now done why ran.fared goes reports;
  })
    where
      long_so_far : (events : List declared.Event) (done : ℕ) (event : declared.Event) → slice_get events done ≡ Some event → done ≡ length (take done (map view events))
      long_so_far [] done event at = absurd (none-some event at)
      long_so_far (x ∷ events) zero event at = refl
      long_so_far (x ∷ events) (suc done) event at = ap suc (long_so_far events done event at)

pub none_run : (watched : Option ℕ) (events : List (Event Definition)) (hosts : List MemoryHost) (sent : List Message) → HaveRun watched (take 0 events) None None hosts sent hosts sent
unfolding last_rejected
none_run watched events hosts sent = record { fared = none_fared watched hosts sent; why = λ w refines. refl }

-- What was done before an event that wasn't applied, where no tape fails.
module _ (watched : Option ℕ) (none : watched ≡ None) (events : List declared.Event) (done : ℕ) (torn : Option (ℕ × Kept)) (why : Option Rejection) (hosts middle after : List MemoryHost) (sent outputs more : List Message)
    (ran : HaveRun watched (take done (map view events)) torn why hosts sent middle outputs) where
  pub part_run : StayShown middle outputs after more → Moves (take done (map view events)) hosts sent after more
  part_run stays = stays_run (take done (map view events)) hosts middle after sent outputs more (whole_moves watched (take done (map view events)) torn hosts middle sent outputs none ran.fared) stays

  pub part_may : (event : declared.Event) → slice_get events done ≡ Some event → MayAllocate (view event) middle outputs → MayAllocateAt done (map view events) hosts sent
  part_may event at may = next_may hosts middle sent outputs events done event at (whole_moves watched (take done (map view events)) torn hosts middle sent outputs none ran.fared) may

-- ---- the deliveries of a pump

module _ (watched : Option ℕ) (targets : List ℕ) (first : ℕ) (hosts : List MemoryHost) (sent : List Message) where
  pub pump_begins : 0 < length targets → first ≤ length sent → HasFaredTo watched targets first (record { whole = 0; some = 0; done = 0 }) None hosts sent hosts sent
  pump_begins some within = record {
    fared = subst (λ es. HaveFared watched es None hosts sent hosts sent) (sym (no_deliveries targets first)) (none_fared watched hosts sent);
    count = ap length (no_deliveries targets first);
    part = some;
    within = omega (arith, within);
    most = omega arith;
  }

  module _ (p : PumpProgress) (torn now : Option (ℕ × Kept)) (middle after : List MemoryHost) (outputs more : List Message) (come : HasFaredTo watched targets first p torn hosts sent middle outputs) (left : first + p.whole < length outputs)
      (may : p.done < most_deliveries) (goes : AddsEvent watched p.done (deliver (get_or targets p.some 0) (first + p.whole)) torn now middle outputs after more) (grows : length outputs ≤ length more) where
    fares_on : HaveFared watched (deliveries targets first p.whole (p.some + 1)) now hosts sent after more
    fares_on =
        subst (λ es. HaveFared watched es now hosts sent after more) (one_more targets first p.whole p.some come.part)
        (fared_on watched (deliveries targets first p.whole p.some) (deliver (get_or targets p.some 0) (first + p.whole)) hosts middle after sent outputs more p.done torn now (sym come.count) come.fared goes)

    counts_on : length (deliveries targets first p.whole (p.some + 1)) ≡ p.done + 1
    counts_on =
        ap length (sym (one_more targets first p.whole p.some come.part)) ∙ length-append (deliveries targets first p.whole p.some) (deliver (get_or targets p.some 0) (first + p.whole) ∷ []) ∙ ap (λ k. k + 1) come.count

    goes_by : (whole : Bool) → (p.some + 1 == length targets) ≡ whole → HasFaredTo watched targets first
        (if whole then record { whole = p.whole + 1; some = 0; done = p.done + 1 } else record { whole = p.whole; some = p.some + 1; done = p.done + 1 }) now hosts sent after more
    goes_by true all =
        let is = whole_round targets first p.whole (p.some + 1) (grind (arith, all)) in record {
          fared = subst (λ es. HaveFared watched es now hosts sent after more) is fares_on;
          count = ap length (sym is) ∙ counts_on;
          part = omega (arith, come.part);
          within = omega (arith, left, grows);
          most = omega (arith, may);
        }
    goes_by false some = record {
      fared = fares_on;
      count = counts_on;
      part = grind (arith, some, come.part);
      within = omega (arith, left, grows, begun_most (p.some + 1));
      most = omega (arith, may);
    }

    -- One delivery more.
    pub pump_goes_on : HasFaredTo watched targets first (next (length targets) p) now hosts sent after more
    pump_goes_on = goes_by (p.some + 1 == length targets) refl

none_begun : (some : ℕ) → begun some ≡ 0 → some ≡ 0
none_begun zero is = refl
none_begun (suc some) is = absurd (omega (arith, is))

-- The pump isn't at its end where a delivery wasn't made.
pub failed_stands : (watched : Option ℕ) (end : PumpEnd) (fault : CarrierFault) → end ≡ end_case.Failed fault → Stands watched end → watched ≡ None
failed_stands None end fault is stands = refl
failed_stands (Some i) end fault is stands = absurd (subst IsMade is stands)

module _ (watched : Option ℕ) (targets : List ℕ) (first : ℕ) (p : PumpProgress) (torn : Option (ℕ × Kept)) (hosts middle after : List MemoryHost) (sent outputs more : List Message) (none : watched ≡ None)
    (come : HasFaredTo watched targets first p torn hosts sent middle outputs) where
  so_far : Moves (deliveries targets first p.whole p.some) hosts sent middle outputs
  so_far = whole_moves watched (deliveries targets first p.whole p.some) torn hosts middle sent outputs none come.fared

  -- A delivery that wasn't made, where no tape fails.
  pub pump_stays : StayShown middle outputs after more → length outputs ≤ length more → HasFaredTo watched targets first p torn hosts sent after more
  pump_stays stays grows =
      let not : torn ≡ None = whole_events (deliveries targets first p.whole p.some) torn (subst (λ i. IsStepOfWatched i (deliveries targets first p.whole p.some) torn) none come.fared.step) in
      subst (λ t. HasFaredTo watched targets first p t hosts sent after more) (sym not) (record {
        fared = record { moves = stays_run (deliveries targets first p.whole p.some) hosts middle after sent outputs more so_far stays; step = tt };
        count = come.count;
        part = come.part;
        within = omega (arith, come.within, grows);
        most = come.most;
      })

  pub pump_may : MayAllocate (deliver (get_or targets p.some 0) (first + p.whole)) middle outputs → NextMayAllocate targets first p.whole p.some hosts sent
  unfolding Moves MayAllocate NextMayAllocate
  pump_may may = λ w refines. may (steps definition_eq w (deliveries targets first p.whole p.some)) (so_far w refines)

-- How a pump ended.
module _ (watched : Option ℕ) (targets : List ℕ) (first : ℕ) (p : PumpProgress) (torn : Option (ℕ × Kept)) (hosts after : List MemoryHost) (sent more : List Message) (come : HasFaredTo watched targets first p torn hosts sent after more) where
  pub pump_done : length more ≤ first + p.whole → (p.some ≡ 0) × (first + p.whole ≡ length more)
  pump_done all = (none_begun p.some (omega (arith, all, come.within)), omega (arith, all, come.within))

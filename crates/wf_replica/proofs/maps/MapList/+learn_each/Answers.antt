-- Nothing is learned, or the first definition and then the others.
use Rattle.std.proofs.Common.{◌∙◌, suc, length, refl, ap, arith}
use Rattle.wf_learner.specs.History.{History, next_of}
use Rattle.wf_replica.proofs.Received.{empty_list, full, learns_first, learns_none, whole, whole_list}
use Rattle.wf_replica.specs.MapList.{maps_of}
use Rattle.wf_replica.proofs.maps.MapList.+learn_each.Goals as goal

pub returns-in_default-clause-learns : goal.returns-in_default-clause-learns
returns-in_default-clause-learns g t c = (0, learns_none c.args.self.now c.args.self.now c.args.definitions.now refl refl)

pub returns-in_default-clause-all : goal.returns-in_default-clause-all
returns-in_default-clause-all g t c =
    let same = ap (λ (h : History). length h.definitions) c.history.ensures in
    let again = ap (λ (h : History). length h.definitions) c.history-2.ensures in
    whole_list (maps_of c.args.self.now) c.args.definitions.now (omega (arith, c.published.ensures.in_range, c.published.ensures.value, same))
    (omega (arith, full c.next_slot.result _ c.in_default.is c.next_slot.ensures.open, again))

pub returns-in_err-learn_at-in-len1-up-clause-learns :
    goal.returns-in_err-learn_at-in-len1-up-clause-learns
returns-in_err-learn_at-in-len1-up-clause-learns g t c =
    (0, learns_none c.args.self.now c.learn_at.new.self c.args.definitions.now c.in_err-learn_at-in-len1-up.ensures.same_received c.in_err-learn_at-in-len1-up.ensures.same_list)

pub returns-in-empty-clause-learns : goal.returns-in-empty-clause-learns
returns-in-empty-clause-learns g t c = (0, learns_none c.args.self.now c.args.self.now c.args.definitions.now refl refl)

pub returns-in-empty-clause-all : goal.returns-in-empty-clause-all
returns-in-empty-clause-all g t c =
    let same = ap (λ (h : History). length h.definitions) c.history.ensures in
    empty_list (maps_of c.args.self.now) c.args.definitions.now (omega (arith, c.published.ensures.in_range, c.published.ensures.value, same)) (omega (arith, c.in-empty.len_below))

pub returns-in_ok-learn_at-in-len1-up-clause-learns :
    goal.returns-in_ok-learn_at-in-len1-up-clause-learns
returns-in_ok-learn_at-in-len1-up-clause-learns g t c =
    let later = c.learn_each.ensures.learns in (
      suc later.0,
      learns_first c.args.self.now c.learn_at.new.self c.learn_each.new.self c.in-Some.slot c.definition-item.result c.args.definitions.now _ later.0
          (whole c.args.definitions.now c.definition-item.result (omega (arith, c.in-len1-up.len_at_least)) c.definition-item.is)
          (c.in-Some.ensures.value ∙ ap (λ (h : History). next_of h.definitions) c.history-2.ensures)
          c.in_ok-learn_at-in-len1-up.ensures.received c.in_ok-learn_at-in-len1-up.ensures.list later.1,
    )

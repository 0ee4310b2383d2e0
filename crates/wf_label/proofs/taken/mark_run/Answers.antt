use Rattle.std.proofs.Common.{◌≡◌, ◌&&◌, ◌||◌, Bool, false, nat_lt, refl, ap, ◌∙◌, arith}
use Rattle.std.specs.Prelude.{nat_le}
use Rattle.std.proofs.lemmas.Bool.Decides.{nat_tests}
use Rattle.wf_label.specs.Taken.{is_marked}
use Rattle.wf_label.proofs.MarkLemmas.{spans_join}
use Rattle.wf_label.proofs.taken.mark_run.Goals as goal

pub loop-here-init : goal.loop-here-init
loop-here-init c = record {
  from = omega arith;
  to = omega arith;
  marked = λ n. let none : (nat_le c.args.start n && nat_lt n c.args.start) ≡ false = grind (arith, nat_tests) in rw none refl;
}

pub loop-here-preserved : goal.loop-here-preserved
loop-here-preserved c = record {
  from = omega (arith, c.loop-here.invariant.from, c.min-next.ensures);
  to = omega (arith, c.min-next.ensures);
  marked = λ n.
      c.mark_word.ensures n
      ∙ ap (λ (t : Bool). (nat_le c.loop-here.here n && nat_lt n c.min-next.result) || t) (c.loop-here.invariant.marked n)
      ∙ spans_join c.args.start c.loop-here.here c.min-next.result n (is_marked c.args.marks.now n) c.loop-here.invariant.from (omega (arith, c.min-next.ensures));
}

pub returns : goal.returns
returns c = λ n.
    let alike : (nat_le c.args.start n && nat_lt n c.loop-here.here) ≡ (nat_le c.args.start n && nat_lt n c.args.end) = grind (arith, nat_tests, c.loop-here.invariant.to, c.loop-here.invariant.from) in
    c.loop-here.invariant.marked n ∙ ap (λ (t : Bool). t || is_marked c.args.marks.now n) alike

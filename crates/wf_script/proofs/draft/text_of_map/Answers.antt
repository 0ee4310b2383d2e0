-- Each line is one of the map's text, up to the one that ends it.
use Rattle.std.proofs.Common.{rules, ◌≡◌, ◌∙◌, ◌++◌, ◌∷◌, [], Some, length, sym, ap, arith}
use Rattle.wf_script.specs.Text.{on_from}
use Rattle.wf_script.proofs.LineSteps.{one_line, map_ended, map_goes_on}
use Rattle.wf_script.proofs.draft.text_of_map.Goals as goal

pub returns-then-ends_map-clause-value : goal.returns-then-ends_map-clause-value
returns-then-ends_map-clause-value c = λ n name s.
    c.loop-line.invariant.value n name s
    ∙ one_line (Some (record { line = n; name = name; text = c.loop-line.text.items })) s c.in-Some.line.now c.loop-line.lines c.next.new.self c.in-Some.ensures.some
    ∙ map_ended (record { line = n; name = name; text = c.loop-line.text.items }) s c.in-Some.line.now c.next.new.self (sym c.ends_map.ensures ∙ c.if-ends_map.true)

pub loop-line-preserved : goal.loop-line-preserved
loop-line-preserved c =
    let text : c.push.new.self.items ≡ c.loop-line.text.items ++ c.in-Some.line.now ++ 10 ∷ [] = search rules in
    let next = c.in-Some.ensures.some in
    let left = ap length next.left in
    record {
      value = λ n name s.
          c.loop-line.invariant.value n name s
          ∙ one_line (Some (record { line = n; name = name; text = c.loop-line.text.items })) s c.in-Some.line.now c.loop-line.lines c.next.new.self next
          ∙ map_goes_on (record { line = n; name = name; text = c.loop-line.text.items }) s c.in-Some.line.now c.next.new.self (sym c.ends_map.ensures ∙ c.if-ends_map.false)
          ∙ ap (λ t. on_from (Some (record { line = n; name = name; text = t })) s c.next.new.self) (sym text);
      total = c.in-Some.ensures.total ∙ c.loop-line.invariant.total;
      left = omega (arith, left, c.loop-line.invariant.left);
    }

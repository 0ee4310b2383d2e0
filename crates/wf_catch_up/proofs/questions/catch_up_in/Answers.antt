-- Each node asks the one that has come furthest.
use Rattle.std.proofs.Common.{length, subst, arith}
use Rattle.wf_catch_up.proofs.Common.{FirstEndUp, nodes_of, length-nodes}
use Rattle.wf_catch_up.proofs.Asked.{have_asked_reachable}
use Rattle.wf_catch_up.proofs.Level.{not_level, stand_level}
use Rattle.wf_catch_up.proofs.questions.catch_up_in.Goals as goal

pub returns-clause-caught : goal.returns-clause-caught
returns-clause-caught g c =
    let after = c.ask_each.new.hosts in
    record {
      caught = record { asked = c.furthest-asked.result; has_most = c.furthest-asked.ensures.most; have_asked = c.ask_each.ensures.have_asked };
      level = λ none.
          let ends = subst (λ b. FirstEndUp c.furthest-asked.result (length c.args.hosts.now) b (nodes_of after)) none c.ask_each.ensures.ends in
          stand_level (nodes_of after) c.furthest-asked.result (λ k less. ends k (omega (arith, less, length-nodes after, c.ask_each.ensures.entries.as_many)));
      behind = λ lost.
          let found = subst (λ b. FirstEndUp c.furthest-asked.result (length c.args.hosts.now) b (nodes_of after)) lost c.ask_each.ensures.ends in
          not_level (nodes_of after) c.furthest-asked.result found.0 found.2;
    }

pub returns-clause-reachable : goal.returns-clause-reachable
returns-clause-reachable g c =
    have_asked_reachable g.T.Tape c.furthest-asked.result (nodes_of c.args.hosts.now) c.ask_each.result (nodes_of c.ask_each.new.hosts)
    c.requires.in_turn c.ask_each.ensures.have_asked

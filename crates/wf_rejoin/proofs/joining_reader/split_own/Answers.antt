-- The parts of the line are determined, one after the other.
use Rattle.std.proofs.Common.{◌∙◌, sym, subst, codes, arith}
use Rattle.wf_folder.specs.FarmFile.{IsNumberOfNodes}
use Rattle.wf_folder.proofs.WordLemmas.{after_mark, after_number, both_numbers, if_none}
use Rattle.wf_rejoin.specs.JoiningText.{own_line}
use Rattle.wf_rejoin.proofs.Stages.{is_own}
use Rattle.wf_rejoin.proofs.joining_reader.split_own.Goals as goal

pub returns-in_err-node-clause-none : goal.returns-in_err-node-clause-none
unfolding own_line
returns-in_err-node-clause-none c = if_none c.from_residual.result (λ node nodes r rest farm below is e.
    c.in_err-node.ensures.none node _ (omega (arith, farm.1, below)) e)

pub returns-in_err-nodes-clause-none : goal.returns-in_err-nodes-clause-none
unfolding own_line
returns-in_err-nodes-clause-none c = if_none c.from_residual-in_err-nodes.result (λ node nodes r rest farm below is e.
    let nodes_on = after_number (codes "node ") c.in_ok-node.node node c.in_ok-node.rest.now _ (sym c.in_ok-node.ensures.some ∙ e) in
    c.in_err-nodes.ensures.none nodes _ (omega (arith, farm.1)) nodes_on)

pub returns-in_err-count-clause-none : goal.returns-in_err-count-clause-none
unfolding own_line
returns-in_err-count-clause-none c = if_none c.from_residual-in_err-count.result (λ node nodes r rest farm below is e.
    let nodes_on = after_number (codes "node ") c.in_ok-node.node node c.in_ok-node.rest.now _ (sym c.in_ok-node.ensures.some ∙ e) in
    let count_on = after_number (codes " of ") c.in_ok-nodes.nodes nodes c.in_ok-nodes.rest.now _ (sym c.in_ok-nodes.ensures.some ∙ nodes_on) in
    c.in_err-count.ensures.none r.count _ is.fits count_on)

pub returns-in_err-mark-clause-none : goal.returns-in_err-mark-clause-none
unfolding own_line
returns-in_err-mark-clause-none c = if_none c.from_residual-in_err-mark.result (λ node nodes r rest farm below is e.
    let nodes_on = after_number (codes "node ") c.in_ok-node.node node c.in_ok-node.rest.now _ (sym c.in_ok-node.ensures.some ∙ e) in
    let count_on = after_number (codes " of ") c.in_ok-nodes.nodes nodes c.in_ok-nodes.rest.now _ (sym c.in_ok-nodes.ensures.some ∙ nodes_on) in
    let mark_on = after_number (codes " count ") c.in_ok-count.count r.count c.in_ok-count.rest.now _ (sym c.in_ok-count.ensures.some ∙ count_on) in
    c.in_err-mark.ensures.none r.mark _ is.bytes is.size mark_on)

pub returns-in_err-rest-clause-none : goal.returns-in_err-rest-clause-none
unfolding own_line
returns-in_err-rest-clause-none c = if_none c.from_residual-in_err-rest.result (λ node nodes r rest farm below is e.
    let nodes_on = after_number (codes "node ") c.in_ok-node.node node c.in_ok-node.rest.now _ (sym c.in_ok-node.ensures.some ∙ e) in
    let count_on = after_number (codes " of ") c.in_ok-nodes.nodes nodes c.in_ok-nodes.rest.now _ (sym c.in_ok-nodes.ensures.some ∙ nodes_on) in
    let mark_on = after_number (codes " count ") c.in_ok-count.count r.count c.in_ok-count.rest.now _ (sym c.in_ok-count.ensures.some ∙ count_on) in
    let end = after_mark (codes " mark ") c.in_ok-mark.mark r.mark c.in_ok-mark.rest.now _ c.in_ok-mark.ensures.mark.1 is.size (sym c.in_ok-mark.ensures.some ∙ mark_on) in
    c.in_err-rest.ensures rest end)

pub returns-in-None-clause-none : goal.returns-in-None-clause-none
unfolding own_line
returns-in-None-clause-none c = λ node nodes r rest farm below is e.
    let first = both_numbers (codes "node ") c.in_ok-node.node node c.in_ok-node.rest.now _ c.in_ok-node.ensures.fits (omega (arith, farm.1, below)) (sym c.in_ok-node.ensures.some ∙ e) in
    let second = both_numbers (codes " of ") c.in_ok-nodes.nodes nodes c.in_ok-nodes.rest.now _ c.in_ok-nodes.ensures.fits (omega (arith, farm.1)) (sym c.in_ok-nodes.ensures.some ∙ first.1) in
    c.in-None.ensures.none (subst IsNumberOfNodes (sym second.0) farm) (omega (arith, below, first.0, second.0))

pub returns-in-Some-clause-some : goal.returns-in-Some-clause-some
returns-in-Some-clause-some c =
    is_own c.args.bytes.now c.in_ok-node.rest.now c.in_ok-nodes.rest.now c.in_ok-count.rest.now c.in_ok-mark.rest.now c.in_ok-rest.rest.now c.in_ok-mark.mark c.in_ok-node.node c.in_ok-nodes.nodes c.in_ok-count.count
    _ _ c.in_ok-node.ensures.some c.in_ok-nodes.ensures.some c.in_ok-count.ensures.some c.in_ok-mark.ensures.some c.in_ok-rest.ensures c.in-Some.ensures.some.0 c.in-Some.ensures.some.1

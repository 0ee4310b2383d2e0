use Rattle.std.proofs.Common.{◌≡◌, sym, arith}
use Rattle.wf_paint.proofs.WalkLemmas.{row_filled}
use Rattle.wf_paint.proofs.inside.fill_row.Goals as goal

pub sort_reaches-requires : goal.sort_reaches-requires
sort_reaches-requires c =
    let wide : c.width.result ≡ c.args.canvas.now.width = c.width.ensures.value in
    record {
      within = λ k d below. omega (arith, c.in_ok-find_reaches.ensures.within k d below, c.requires.size);
      most = omega (arith, c.width.ensures.within.width_most, c.requires.size);
      clear = c.requires.clear;
    }

pub cover_between-requires : goal.cover_between-requires
cover_between-requires c =
    rw c.deref.ensures.value (record {
      row = c.requires.row;
      within = λ k d below. omega (arith, c.in_ok-sort_reaches.ensures.within k d below, c.requires.size);
      sorted = c.in_ok-sort_reaches.ensures.sorted;
    })

pub returns-clause-filled : goal.returns-clause-filled
returns-clause-filled c =
    row_filled c.args.row c.width.result c.args.edges.now c.find_reaches.new.reaches.items c.sort_reaches.new.reaches.items c.args.color c.args.canvas.now c.cover_between.new.canvas
    (sym c.width.ensures.value) c.in_ok-find_reaches.ensures.count c.in_ok-sort_reaches.ensures.parity (rw c.deref.ensures.value at c.cover_between.ensures)

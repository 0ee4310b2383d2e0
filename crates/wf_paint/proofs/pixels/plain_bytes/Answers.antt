use Rattle.std.proofs.Common.{◌≡◌, ◌+◌, ◌*◌, ◌%◌, ◌++◌, ℕ, List, drop, take, subst, sym, arith}
use Rattle.wf_paint.specs.Cells.{IsPlain}
use Rattle.wf_paint.proofs.PlainLemmas.{plain_begins, plain_longer, plain_part}
use Rattle.wf_paint.proofs.pixels.plain_bytes.Goals as goal

pub loop-init : goal.loop-init
loop-init c = (
  omega (arith, c.in_ok-extend_from_slice.ensures.len, c.in_ok-bytes.ensures.len),
  plain_begins c.args.room c.args.color _ (omega (arith, c.in_ok-extend_from_slice.ensures.len, c.in_ok-bytes.ensures.len)),
)

pub loop-preserved : goal.loop-preserved
loop-preserved c =
    let color = c.args.color in
    let room : ℕ = c.args.room in
    let count : 1024 * c.loop.counter + 1024 ≡ 1024 * (c.loop.counter + 1) = omega arith in
    let more = plain_longer room (1024 * c.loop.counter) 1024 color c.loop.bytes.items c.block_of-block.result c.loop.invariant.0 c.loop.invariant.1 c.block_of-block.ensures in
    let counted = subst (λ (n : ℕ). IsPlain n color (drop room (c.loop.bytes.items ++ c.block_of-block.result))) count more in (
      omega (arith, c.loop.invariant.0, c.in_ok-extend_from_slice-2.ensures.len),
      subst (λ (bytes : List ℕ). IsPlain (1024 * (c.loop.counter + 1)) color (drop room bytes)) (sym c.in_ok-extend_from_slice-2.ensures.items) counted,
    )

pub returns-clause-room : goal.returns-clause-room
returns-clause-room c = omega (arith, c.loop.invariant.0, c.in_ok-extend_from_slice-3.ensures.len)

pub returns-clause-pixels : goal.returns-clause-pixels
returns-clause-pixels c =
    let color = c.args.color in
    let room : ℕ = c.args.room in
    let count : 1024 * c.loop.counter + c.args.count % 1024 ≡ c.args.count = omega arith in
    let part = plain_part 1024 (c.args.count % 1024) color c.block_of-block.result (omega arith) c.block_of-block.ensures in
    let last : List ℕ = take (3 * (c.args.count % 1024)) c.block_of-block.result in
    let more = plain_longer room (1024 * c.loop.counter) (c.args.count % 1024) color c.loop.bytes.items last c.loop.invariant.0 c.loop.invariant.1 part in
    let counted = subst (λ (n : ℕ). IsPlain n color (drop room (c.loop.bytes.items ++ last))) count more in
    subst (λ (bytes : List ℕ). IsPlain c.args.count color (drop room bytes)) (sym c.in_ok-extend_from_slice-3.ensures.items) counted

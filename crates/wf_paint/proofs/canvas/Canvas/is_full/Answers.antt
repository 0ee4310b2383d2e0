use Rattle.std.proofs.Common.{◌≡◌, ◌≢◌, ◌<◌, length, eqb-true, eq-eqb, sym, ◌∙◌, arith}
use Rattle.std.proofs.lemmas.Bool.{false≢true}
use Rattle.wf_paint.specs.Canvas.{CanvasValue}
use Rattle.wf_paint.proofs.CanvasLemmas.{canvas_alike, canvas_known, canvas_full, canvas_free}
use Rattle.wf_paint.proofs.canvas.Canvas.is_full.Goals as goal

pub invariant_of-self : goal.invariant_of-self
invariant_of-self c =
    let here : CanvasValue = record { width = c.self.inside.width; height = c.self.inside.height; background = c.self.inside.background; bytes = c.self.inside.pixels; free = c.self.inside.free.items; known = c.self.inside.known; blocks = c.self.inside.blocks.items } in
    canvas_known here c.first_free-self-inside.result c.self.invariant c.first_free-self-inside.ensures.within c.first_free-self-inside.ensures.painted

pub returns-clause-alike : goal.returns-clause-alike
returns-clause-alike c =
    let here : CanvasValue = record { width = c.self.inside.width; height = c.self.inside.height; background = c.self.inside.background; bytes = c.self.inside.pixels; free = c.self.inside.free.items; known = c.self.inside.known; blocks = c.self.inside.blocks.items } in
    let same : c.args.self.now ≡ here = cc in
    rw same (canvas_alike here c.first_free-self-inside.result)

pub returns-clause-full : goal.returns-clause-full
returns-clause-full c = λ all.
    let here : CanvasValue = record { width = c.self.inside.width; height = c.self.inside.height; background = c.self.inside.background; bytes = c.self.inside.pixels; free = c.self.inside.free.items; known = c.self.inside.known; blocks = c.self.inside.blocks.items } in
    let whole : c.first_free-self-inside.result ≡ length here.free = eqb-true _ _ all ∙ sym c.self.invariant.words in
    canvas_full here c.first_free-self-inside.result c.self.invariant (λ i area. c.first_free-self-inside.ensures.painted i (rw whole area))

pub returns-clause-free : goal.returns-clause-free
returns-clause-free c = λ some.
    let here : CanvasValue = record { width = c.self.inside.width; height = c.self.inside.height; background = c.self.inside.background; bytes = c.self.inside.pixels; free = c.self.inside.free.items; known = c.self.inside.known; blocks = c.self.inside.blocks.items } in
    let apart : c.first_free-self-inside.result ≢ length here.free = λ whole. false≢true (sym some ∙ eq-eqb _ _ (whole ∙ c.self.invariant.words)) in
    let within : c.first_free-self-inside.result < length here.free = omega (arith, c.first_free-self-inside.ensures.within) in
    canvas_free here c.first_free-self-inside.result c.self.invariant c.first_free-self-inside.result (c.first_free-self-inside.ensures.free within)

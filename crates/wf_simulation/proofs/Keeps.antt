-- Steps that leave the bytes of a direction as they are.
use Rattle.std.proofs.Common.{◌∙◌, refl}
use Rattle.wf_simulation.specs.Pipe.{PipeState, KeepsBytes}

pub keeps_same : (pipe : PipeState) → KeepsBytes pipe pipe
keeps_same pipe = record { sent = refl; came = refl; limit = refl }

pub keeps_twice : (a b c : PipeState) → KeepsBytes a b → KeepsBytes b c → KeepsBytes a c
keeps_twice a b c one two = record { sent = two.sent ∙ one.sent; came = two.came ∙ one.came; limit = two.limit ∙ one.limit }

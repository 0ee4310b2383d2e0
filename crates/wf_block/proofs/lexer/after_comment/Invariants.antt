use Rattle.std.proofs.Common.{◌≡◌, ◌≤◌, length}
use Rattle.wf_block.specs.Token.{BlockComment, tokens_from}
use Rattle.wf_block.proofs.lexer.after_comment.Given as goal

abbrev pub invariant-loop-byte : goal.invariant-loop-byte
invariant-loop-byte l = record {
  tokens : tokens_from BlockComment l.rest ≡ tokens_from BlockComment l.fn.bytes;
  within : length l.rest ≤ length l.fn.bytes;
}

abbrev pub decreases-loop-byte : goal.decreases-loop-byte
decreases-loop-byte l = length l.rest

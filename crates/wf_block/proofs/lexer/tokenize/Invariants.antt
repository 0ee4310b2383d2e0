use Rattle.std.proofs.Common.{◌≡◌, ◌≤◌, length}
use Rattle.wf_block.specs.Token.{Between, prepend_all, tokens_from, tokens, token_values}
use Rattle.wf_block.proofs.lexer.tokenize.Given as goal

-- the tokens so far, followed by those of the rest, are those of the whole text
abbrev pub invariant-loop-after : goal.invariant-loop-after
invariant-loop-after l = record {
  tokens : prepend_all (token_values l.tokens.items) (tokens_from Between l.rest) ≡ tokens l.bytes;
  within : length l.rest ≤ length l.bytes;
}

abbrev pub decreases-loop-after : goal.decreases-loop-after
decreases-loop-after l = length l.rest

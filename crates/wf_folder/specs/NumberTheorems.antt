-- How many digits a number, a mark and a digest have.
use Rattle.std.proofs.Common.{◌≡◌, ℕ, List, length, arith}
use Rattle.std.specs.Int.{w32, to_be_bytes}
use Rattle.hex.specs.Hex.{encode_lower, lower_digits}
use Rattle.hex.proofs.HexLemmas.{length-encode_with}
use Rattle.wf_folder.specs.Number.{number_digits}

pub eight : (n : ℕ) → length (number_digits n) ≡ 8
unfolding number_digits
eight n = length-encode_with lower_digits (to_be_bytes w32 n)

pub digits_of_mark : (mark : List ℕ) → length mark ≡ 16 → length (encode_lower mark) ≡ 32
digits_of_mark mark size = omega (arith, length-encode_with lower_digits mark, size)

pub digits_of_digest : (digest : List ℕ) → length digest ≡ 32 → length (encode_lower digest) ≡ 64
digits_of_digest digest size = omega (arith, length-encode_with lower_digits digest, size)

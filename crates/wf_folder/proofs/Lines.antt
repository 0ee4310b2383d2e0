-- The lines of a node's file: what follows a line is determined, and so are its two digits.
use Rattle.std.proofs.Common.{◌≡◌, ◌∙◌, ℕ, ◌+◌, ◌/◌, ◌%◌, ◌≤◌, List, ◌++◌, length, length-append, take, drop, sym, ap, arith}
use Rattle.std.specs.Prelude.{codes}
use Rattle.std.proofs.lemmas.List.{append_cancel_left, take-append-drop, length-take}
use Rattle.hex.specs.Hex.{encode_lower}
use Rattle.wf_folder.specs.FarmFile.{mark_line, nodes_line}
use Rattle.wf_folder.specs.NodeFile.{farm_and_mark, farm_line, node_line, numbers_then, starts_line}
use Rattle.wf_folder.specs.Number.{number_digits}
use Rattle.wf_folder.specs.NumberTheorems.{digits_of_mark, eight}
use Rattle.wf_folder.proofs.Numbers.{same_ends, same_fronts}

two_digits : (n m : ℕ) → 48 + n / 10 ≡ 48 + m / 10 → 48 + n % 10 ≡ 48 + m % 10 → n ≡ m
two_digits n m tens ones = omega arith

pub same_node : (n m : ℕ) (r s : List ℕ) → node_line n ++ r ≡ node_line m ++ s → n ≡ m
same_node n m r s e =
    let tens : 48 + n / 10 ≡ 48 + m / 10 = cc in
    let ones : 48 + n % 10 ≡ 48 + m % 10 = cc in
    two_digits n m tens ones

pub after_node : (n m : ℕ) (r s : List ℕ) → node_line n ++ r ≡ node_line m ++ s → r ≡ s
after_node n m r s e = cc

pub same_nodes : (n m : ℕ) (r s : List ℕ) → nodes_line n ++ r ≡ nodes_line m ++ s → n ≡ m
same_nodes n m r s e =
    let tens : 48 + n / 10 ≡ 48 + m / 10 = cc in
    let ones : 48 + n % 10 ≡ 48 + m % 10 = cc in
    two_digits n m tens ones

pub after_nodes : (n m : ℕ) (r s : List ℕ) → nodes_line n ++ r ≡ nodes_line m ++ s → r ≡ s
after_nodes n m r s e = cc

pub after_starts : (n m : ℕ) (r s : List ℕ) → starts_line n ++ r ≡ starts_line m ++ s → r ≡ s
after_starts n m r s e =
    let digits : number_digits n ++ r ≡ number_digits m ++ s = append_cancel_left (codes "starts ") _ _ e in
    (same_fronts (number_digits n) (number_digits m) r s (eight n ∙ sym (eight m)) digits).1

pub after_numbers : (n m a b p q : ℕ) (r s : List ℕ) → numbers_then n a p r ≡ numbers_then m b q s → r ≡ s
after_numbers n m a b p q r s e = after_starts p q r s (after_nodes a b _ _ (after_node n m _ _ e))

-- the name's line and the mark's, which has 38 bytes
mark_line_length : (mark : List ℕ) → length mark ≡ 16 → length (mark_line mark) ≡ 38
mark_line_length mark size = omega (arith, length-append (encode_lower mark) (codes "\n"), digits_of_mark mark size)

pub lines_fit : (bytes name mark : List ℕ) → length mark ≡ 16 → bytes ≡ farm_and_mark name mark → 38 ≤ length bytes
lines_fit bytes name mark size e = omega (arith, ap length e, length-append (farm_line name) (mark_line mark), mark_line_length mark size)

cut : (bytes name mark : List ℕ) (n : ℕ) → n + 38 ≡ length bytes → length mark ≡ 16 → bytes ≡ farm_and_mark name mark → (take n bytes ≡ farm_line name) × (drop n bytes ≡ mark_line mark)
cut bytes name mark n at size e =
    let front : length (take n bytes) ≡ n = omega (arith, length-take n bytes, at) in
    let back : length (drop n bytes) ≡ 38 = omega (arith, length-append (take n bytes) (drop n bytes), ap length (take-append-drop n bytes), front, at) in
    same_ends (take n bytes) (drop n bytes) (farm_line name) (mark_line mark) (back ∙ sym (mark_line_length mark size)) (take-append-drop n bytes ∙ e)

pub farm_before : (bytes name mark : List ℕ) (n : ℕ) → n + 38 ≡ length bytes → length mark ≡ 16 → bytes ≡ farm_and_mark name mark → take n bytes ≡ farm_line name
farm_before bytes name mark n at size e = (cut bytes name mark n at size e).0

pub mark_after : (bytes name mark : List ℕ) (n : ℕ) → n + 38 ≡ length bytes → length mark ≡ 16 → bytes ≡ farm_and_mark name mark → drop n bytes ≡ mark_line mark
mark_after bytes name mark n at size e = (cut bytes name mark n at size e).1

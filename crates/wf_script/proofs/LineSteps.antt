-- What one line means, and the lines after it.
use Rattle.std.proofs.Common.{◌≡◌, ◌∙◌, ℕ, ◌+◌, true, false, List, [], ◌∷◌, ◌++◌, Option, Some, None, refl, sym, ap}
use Rattle.std.specs.Prelude.{Result, Ok, Err}
use Rattle.wf_script.specs.Fault.{fault_of, is_memory}
use Rattle.wf_script.specs.Lines.{IsNext, Lines}
use Rattle.wf_script.specs.ReadContract.{◌>>=◌, at_line, wants_memory}
use Rattle.wf_script.specs.Text.{Begun, ScriptState, closed, head, head_from, line_on, line_means, nodes_of, on_from, outside, read_on}
use Rattle.wf_script.specs.Words.{ends_map, is_skipped}
use Rattle.wf_script.specs.declared.fault.ScriptFault.{ScriptFault}
use Rattle.wf_script.specs.declared.fault.ScriptFault.TheVariants as fault
use Rattle.wf_script.specs.declared.fault.Wrong.{Wrong}
use Rattle.wf_script.specs.declared.fault.Wrong.TheVariants as wrongs

-- an error of a script is allocation failure where the error of the line is
pub same_want : (wrong : Wrong) (line : ℕ) → is_memory (fault_of wrong line) ≡ wants_memory wrong
same_want wrongs.Memory line = refl
same_want wrongs.BadLine line = refl
same_want wrongs.OverLimit line = refl
same_want wrongs.BadMap line = refl

first_line : (begun : Option Begun) (s : ScriptState) (line : List ℕ) (left : List (List ℕ)) (n : ℕ) → read_on begun n s (line ∷ left) ≡ line_means begun n s line >>= (λ t. read_on t.0 (n + 1) t.1 left)
unfolding read_on
first_line None s line left n = refl
first_line (Some begun) s line left n = refl

pub one_line : (begun : Option Begun) (s : ScriptState) (line : List ℕ) (old new : Lines) → IsNext line old new → on_from begun s old ≡ line_on begun s line new
unfolding on_from line_on
one_line begun s line old new next =
    ap (λ left. read_on begun (old.number + 1) s left) next.left
    ∙ ap (λ n. read_on begun n s (line ∷ new.left)) (sym next.number)
    ∙ first_line begun s line new.left new.number

pub no_line : (s : ScriptState) (ls : Lines) → ls.left ≡ [] → on_from None s ls ≡ Ok s
unfolding on_from read_on
no_line s ls none = ap (λ left. read_on None (ls.number + 1) s left) none

pub never_ended : (begun : Begun) (s : ScriptState) (ls : Lines) → ls.left ≡ [] → on_from (Some begun) s ls ≡ Err (fault.BadLine begun.line)
unfolding on_from read_on
never_ended begun s ls none = ap (λ left. read_on (Some begun) (ls.number + 1) s left) none

-- within a map
closed_on : (c : Result ScriptState ScriptFault) (ls : Lines) → (c >>= outside >>= (λ t. on_from t.0 t.1 ls)) ≡ c >>= (λ t. on_from None t ls)
closed_on (Err fault) ls = refl
closed_on (Ok t) ls = refl

pub map_ended : (begun : Begun) (s : ScriptState) (line : List ℕ) (ls : Lines) → ends_map line ≡ true → line_on (Some begun) s line ls ≡ at_line begun.line (closed begun.name begun.text s) >>= (λ t. on_from None t ls)
unfolding line_on line_means
map_ended begun s line ls is = rw is (closed_on (at_line begun.line (closed begun.name begun.text s)) ls)

pub map_goes_on : (begun : Begun) (s : ScriptState) (line : List ℕ) (ls : Lines) → ends_map line ≡ false → line_on (Some begun) s line ls ≡ on_from (Some (record { line = begun.line; name = begun.name; text = begun.text ++ line ++ 10 ∷ [] })) s ls
unfolding line_on line_means
map_goes_on begun s line ls isnt = rw isnt refl

-- outside of a map
pub line_skipped : (s : ScriptState) (line : List ℕ) (ls : Lines) → is_skipped line ≡ true → line_on None s line ls ≡ on_from None s ls
unfolding line_on line_means
line_skipped s line ls is = rw is refl

-- the head of a script
pub head_line : (line : List ℕ) (old new : Lines) → IsNext line old new → is_skipped line ≡ false → head_from old ≡ at_line new.number (nodes_of line) >>= (λ nodes. Ok (nodes, new))
unfolding head_from head
head_line line old new next isnt =
    ap (λ left. head (old.number + 1) left) next.left
    ∙ ap (λ n. head n (line ∷ new.left)) (sym next.number)
    ∙ rw isnt refl

pub head_skipped : (line : List ℕ) (old new : Lines) → IsNext line old new → is_skipped line ≡ true → head_from old ≡ head_from new
unfolding head_from head
head_skipped line old new next is =
    ap (λ left. head (old.number + 1) left) next.left
    ∙ ap (λ n. head n (line ∷ new.left)) (sym next.number)
    ∙ rw is refl

pub no_head : (ls : Lines) → ls.left ≡ [] → head_from ls ≡ Err (fault.BadLine 1)
unfolding head_from head
no_head ls none = ap (λ left. head (ls.number + 1) left) none

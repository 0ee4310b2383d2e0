-- What all the lines of a text mean.
use Rattle.std.proofs.Common.{◌≡◌, ◌∙◌, ℕ, List, Some, None, sym, ap, subst}
use Rattle.std.specs.Prelude.{Result, Ok, Err, false}
use Rattle.wf_script.specs.Fault.{is_memory}
use Rattle.wf_script.specs.Lines.{Lines, lines, over_limit}
use Rattle.wf_script.specs.ReadContract.{◌>>=◌, ReportsWithLine}
use Rattle.wf_script.specs.Script.{Script}
use Rattle.wf_script.specs.Text.{ScriptState, ended, head_from, nothing_meant, on_from, script, script_of, unless_over}
use Rattle.wf_script.specs.declared.fault.ScriptFault.{ScriptFault}
use Rattle.wf_script.specs.declared.fault.ScriptFault.TheVariants.{OverLimit}

-- the lines of a text, before the first is returned
pub record AreLinesOf (text : List ℕ) (ls : Lines) : Type 0 where
  pub number : ls.number ≡ 0
  pub left : ls.left ≡ lines text

from_first : (text : List ℕ) (ls : Lines) → AreLinesOf text ls → script (record { number = 0; left = lines text }) ≡ script ls
from_first text ls are =
    ap (λ n. script (record { number = n; left = lines text })) (sym are.number)
    ∙ ap (λ left. script (record { number = ls.number; left = left })) (sym are.left)

behind_head : (ls : Lines) (head : Result (ℕ × Lines) ScriptFault) → head_from ls ≡ head →
    script ls ≡ head >>= (λ first. on_from None nothing_meant first.1 >>= (λ s. ended first.0 s))
unfolding script
behind_head ls head is = ap (λ h. h >>= (λ first. on_from None nothing_meant first.1 >>= (λ s. ended first.0 s))) is

pub all_meant : (text : List ℕ) (ls now : Lines) (nodes : ℕ) (s : ScriptState) → AreLinesOf text ls → head_from ls ≡ Ok (nodes, now) → on_from None nothing_meant now ≡ Ok s
    → script (record { number = 0; left = lines text }) ≡ Ok (record { nodes = nodes; names = s.names; maps = s.maps; orders = s.orders })
all_meant text ls now nodes s are head rest =
    from_first text ls are ∙ behind_head ls (Ok (nodes, now)) head
    ∙ ap (λ (found : Result ScriptState ScriptFault). found >>= (λ t. ended nodes t)) rest

pub none_meant : (text : List ℕ) (ls now : Lines) (nodes : ℕ) (fault : ScriptFault) → AreLinesOf text ls → head_from ls ≡ Ok (nodes, now) → on_from None nothing_meant now ≡ Err fault
    → script (record { number = 0; left = lines text }) ≡ Err fault
none_meant text ls now nodes fault are head rest =
    from_first text ls are ∙ behind_head ls (Ok (nodes, now)) head
    ∙ ap (λ (found : Result ScriptState ScriptFault). found >>= (λ t. ended nodes t)) rest

pub no_head_reported : {X : Type 0} (view : X → Script) (result : Result X ScriptFault) (fault : ScriptFault) (text : List ℕ) (ls : Lines) → result ≡ Err fault → AreLinesOf text ls
    → (is_memory fault ≡ false → head_from ls ≡ Err fault) → ReportsWithLine view result (script (record { number = 0; left = lines text }))
no_head_reported view result fault text ls is are why =
    subst (λ r. ReportsWithLine view r (script (record { number = 0; left = lines text }))) (sym is) (λ isnt. from_first text ls are ∙ behind_head ls (Err fault) (why isnt))

pub over_is_none : (text : List ℕ) (line : ℕ) → over_limit text ≡ Some line → script_of text ≡ Err (OverLimit line)
unfolding script_of
over_is_none text line over = ap (λ o. unless_over o (script (record { number = 0; left = lines text }))) over

pub within_is : (text : List ℕ) → over_limit text ≡ None → script_of text ≡ script (record { number = 0; left = lines text })
unfolding script_of
within_is text within = ap (λ o. unless_over o (script (record { number = 0; left = lines text }))) within

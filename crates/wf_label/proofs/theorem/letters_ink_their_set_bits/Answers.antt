use Rattle.wf_label.proofs.LetterLemmas.{letters_ink_their_set_bits, letters_stay_in_their_box, pixels_outside_boxes_stay}
use Rattle.wf_label.proofs.theorem.letters_ink_their_set_bits.Goals as goal

pub returns-clause-bits : goal.returns-clause-bits
returns-clause-bits c = letters_ink_their_set_bits

pub returns-clause-in_box : goal.returns-clause-in_box
returns-clause-in_box c = letters_stay_in_their_box

pub returns-clause-outside : goal.returns-clause-outside
returns-clause-outside c = pixels_outside_boxes_stay

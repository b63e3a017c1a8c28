-- Number, line and words of a fault of form. Assumes nothing.
use Rattle.std.specs.Prelude.{ℕ, List, [], ◌∷◌, ◌++◌, codes, decimal}
use Rattle.textline.specs.declared.faults.FormFault.{FormFault}
use Rattle.textline.specs.declared.faults.FormFault.TheVariants.{TooLong, BadLine}

-- 32 for a text of more than 65,535 bytes, 31 for a line that is not of its form, missing or extra
abbrev pub form_number : FormFault → ℕ
form_number TooLong = 32
form_number (BadLine line) = 31

-- the line at fault, counted from 1; 0 for a text that is too long
abbrev pub form_line : FormFault → ℕ
form_line TooLong = 0
form_line (BadLine line) = line

-- `bad`, the line and the number, one space between each two
abbrev pub form_words : FormFault → List ℕ
form_words f = codes "bad " ++ (decimal (form_line f) ++ (codes " " ++ decimal (form_number f)))

-- `bad`, the line and the number of a fault of form, and the end of the line
abbrev pub bad_line : FormFault → List ℕ
bad_line f = form_words f ++ (10 ∷ [])

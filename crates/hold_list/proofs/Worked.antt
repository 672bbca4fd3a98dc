-- Texts by computation: H3, a hold with centres at a half and an empty file without an argument, H3 with the argument 2, what names no size.
use Rattle.std.proofs.Common.{◌≡◌, refl, List, [], ◌∷◌, ℕ}
use Rattle.picture.specs.Pictures.{adjacent}
use Rattle.picture.specs.Components.{component_at, components}
use Rattle.picture.specs.Trees.{is_branch, nodes_at, nodes, is_leaf}
use Rattle.picture.specs.Watersheds.{lowerable, best, watershed}
use Rattle.picture.specs.Passes.{pass}
use Rattle.picture.specs.Patches.{patch_nodes, deeper, climb_of, depth_of, patch_of, patches, patch_at, line_count}
use Rattle.picture.specs.Filling.{filled_at, filled}
use Rattle.centres.specs.Centres.{centre}
use Rattle.p5.specs.Headers.{gap_end, digits_at, number_at, end_at, walk}
use Rattle.p5.specs.Files.{on_pixels, on_header, read_file}
use Rattle.text.specs.Decimal.{decimal}
use Rattle.hold_lines.specs.Lines.{refused_line}
use Rattle.file_text.specs.FileText.{file_fault, file_text}
use Rattle.hold_list.specs.HoldText.{patch_list, hold_list, filled_list, named_size, program_text}

-- H3 with largest sample 9
abbrev h3 : List ℕ
h3 = 80 ∷ 53 ∷ 10 ∷ 53 ∷ 32 ∷ 49 ∷ 10 ∷ 57 ∷ 10 ∷ 3 ∷ 1 ∷ 4 ∷ 0 ∷ 2 ∷ []

-- what is printed for it, line by line
abbrev h3_text : List ℕ
h3_text =
    -- picture 5 1
    112 ∷ 105 ∷ 99 ∷ 116 ∷ 117 ∷ 114 ∷ 101 ∷ 32 ∷ 53 ∷ 32 ∷ 49 ∷ 10 ∷
    -- patches 2 line 1
    112 ∷ 97 ∷ 116 ∷ 99 ∷ 104 ∷ 101 ∷ 115 ∷ 32 ∷ 50 ∷ 32 ∷ 108 ∷ 105 ∷ 110 ∷ 101 ∷ 32 ∷ 49 ∷ 10 ∷
    -- 1 2 1 3 5 0
    49 ∷ 32 ∷ 50 ∷ 32 ∷ 49 ∷ 32 ∷ 51 ∷ 32 ∷ 53 ∷ 32 ∷ 48 ∷ 10 ∷
    -- 2 2 0 4 35 0
    50 ∷ 32 ∷ 50 ∷ 32 ∷ 48 ∷ 32 ∷ 52 ∷ 32 ∷ 51 ∷ 53 ∷ 32 ∷ 48 ∷ 10 ∷ []

-- 3 by 3 with largest sample 9: an L of four pixels, whose columns have the sum 1 and whose rows have the sum 3
abbrev halves : List ℕ
halves =
    80 ∷ 53 ∷ 10 ∷ 51 ∷ 32 ∷ 51 ∷ 10 ∷ 57 ∷ 10 ∷
    0 ∷ 0 ∷ 5 ∷
    0 ∷ 5 ∷ 3 ∷
    0 ∷ 5 ∷ 3 ∷ []

-- what is printed for it: its centre is 2.5 and 7.5 tenths, each rounded to the even tenth
abbrev halves_text : List ℕ
halves_text =
    -- picture 3 3
    112 ∷ 105 ∷ 99 ∷ 116 ∷ 117 ∷ 114 ∷ 101 ∷ 32 ∷ 51 ∷ 32 ∷ 51 ∷ 10 ∷
    -- patches 2 line 3
    112 ∷ 97 ∷ 116 ∷ 99 ∷ 104 ∷ 101 ∷ 115 ∷ 32 ∷ 50 ∷ 32 ∷ 108 ∷ 105 ∷ 110 ∷ 101 ∷ 32 ∷ 51 ∷ 10 ∷
    -- 1 4 0 5 2 8
    49 ∷ 32 ∷ 52 ∷ 32 ∷ 48 ∷ 32 ∷ 53 ∷ 32 ∷ 50 ∷ 32 ∷ 56 ∷ 10 ∷
    -- 2 2 3 2 20 15
    50 ∷ 32 ∷ 50 ∷ 32 ∷ 51 ∷ 32 ∷ 50 ∷ 32 ∷ 50 ∷ 48 ∷ 32 ∷ 49 ∷ 53 ∷ 10 ∷ []

pub worked-text : (program_text 1 [] h3 ≡ h3_text) × (program_text 1 [] halves ≡ halves_text)
unfolding adjacent component_at components is_branch nodes_at nodes lowerable best watershed is_leaf patch_nodes pass deeper climb_of depth_of patch_of patches patch_at line_count centre gap_end digits_at number_at end_at walk on_pixels on_header read_file decimal patch_list hold_list file_fault file_text program_text
worked-text = (refl, refl)

-- an empty file is refused with number 1
pub worked-refusal : program_text 1 [] [] ≡ 114 ∷ 101 ∷ 102 ∷ 117 ∷ 115 ∷ 101 ∷ 100 ∷ 32 ∷ 49 ∷ 10 ∷ []
unfolding read_file decimal file_fault file_text program_text
worked-refusal = refl

-- what is printed for H3 with the argument 2: filled it is 3 3 4 2 2
abbrev h3_filled : List ℕ
h3_filled =
    -- picture 5 1
    112 ∷ 105 ∷ 99 ∷ 116 ∷ 117 ∷ 114 ∷ 101 ∷ 32 ∷ 53 ∷ 32 ∷ 49 ∷ 10 ∷
    -- patches 2 line 1
    112 ∷ 97 ∷ 116 ∷ 99 ∷ 104 ∷ 101 ∷ 115 ∷ 32 ∷ 50 ∷ 32 ∷ 108 ∷ 105 ∷ 110 ∷ 101 ∷ 32 ∷ 49 ∷ 10 ∷
    -- 1 2 3 1 5 0
    49 ∷ 32 ∷ 50 ∷ 32 ∷ 51 ∷ 32 ∷ 49 ∷ 32 ∷ 53 ∷ 32 ∷ 48 ∷ 10 ∷
    -- 2 2 2 2 35 0
    50 ∷ 32 ∷ 50 ∷ 32 ∷ 50 ∷ 32 ∷ 50 ∷ 32 ∷ 51 ∷ 53 ∷ 32 ∷ 48 ∷ 10 ∷ []

pub worked-filled : program_text 2 (50 ∷ []) h3 ≡ h3_filled
unfolding adjacent component_at components is_branch nodes_at nodes lowerable best watershed is_leaf patch_nodes pass deeper climb_of depth_of patch_of patches patch_at line_count centre gap_end digits_at number_at end_at walk on_pixels on_header read_file decimal filled_at filled patch_list hold_list file_fault file_text filled_list named_size program_text
worked-filled = refl

-- no size is named by the letter x, by no bytes, by six digits, by two arguments
-- nor are 0 and 6 sizes of H3, which has 5 pixels; a refused file comes before all this
pub worked-unnamed :
    (program_text 2 (120 ∷ []) h3 ≡ refused_line 13) ×
    (program_text 2 [] h3 ≡ refused_line 13) ×
    (program_text 2 (48 ∷ 48 ∷ 48 ∷ 48 ∷ 48 ∷ 50 ∷ []) h3 ≡ refused_line 13) ×
    (program_text 3 (50 ∷ []) h3 ≡ refused_line 13) ×
    (program_text 2 (48 ∷ []) h3 ≡ refused_line 13) ×
    (program_text 2 (54 ∷ []) h3 ≡ refused_line 13) ×
    (program_text 2 (120 ∷ []) [] ≡ refused_line 1)
unfolding gap_end digits_at number_at end_at walk on_pixels on_header read_file decimal file_fault file_text filled_list named_size program_text
worked-unnamed = (refl, refl, refl, refl, refl, refl, refl)

-- What the program `holds` prints for a file.
use Rattle.std.specs.Prelude.{◌&&◌, List, [], ◌∷◌, ◌++◌, ℕ, eqb, ltb, leb, length, drop}
use Rattle.lists.specs.Lists.{pick, all}
use Rattle.picture.specs.Pictures.{Picture, places, picture_of}
use Rattle.picture.specs.Watersheds.{watershed}
use Rattle.picture.specs.Patches.{Patch, patches, line_count}
use Rattle.picture.specs.Filling.{filled}
use Rattle.faults.specs.Faults.{size_unfit}
use Rattle.p5.specs.Headers.{is_digit, decimal_value}
use Rattle.p5.specs.Files.{read_file, header_of}
use Rattle.hold_lines.specs.Lines.{head_lines, refused_line, line_of}
use Rattle.file_text.specs.FileText.{file_text}

-- the line of a patch
abbrev pub patch_line : Patch → List ℕ
patch_line q = line_of q.number q.size q.height q.depth q.columns q.rows

-- the lines of patches
abbrev pub patch_lines : List Patch → List ℕ
patch_lines [] = []
patch_lines (q ∷ qs) = patch_line q ++ patch_lines qs

-- the list of the patches of a picture under its two lines
unfoldable pub patch_list : Picture → List ℕ
patch_list a = head_lines a.width a.height (length (patches a)) (line_count a) ++ patch_lines (patches a)

-- the hold list of a picture: the patches and the line of its watershed
unfoldable pub hold_list : Picture → List ℕ
hold_list p = patch_list (watershed p)

-- the picture of an accepted file, with adjacency 4
abbrev pub picture_in : List ℕ → Picture
picture_in f =
    let h = header_of (read_file f) in
    picture_of 4 h.width h.height (drop h.offset f)

-- the text for a file: its refusal, else what is printed of its picture
abbrev pub picture_text : (Picture → List ℕ) → List ℕ → List ℕ
picture_text print f = file_text (λ g. print (picture_in g)) f

-- the text for a file without an argument: the hold list of its picture
abbrev pub hold_text : List ℕ → List ℕ
hold_text f = picture_text hold_list f

-- the hold list of a picture filled with the least size s; 13 where s is 0 or above n
unfoldable pub filled_list : ℕ → Picture → List ℕ
filled_list s p = pick (size_unfit (places p) s) (refused_line 13) (hold_list (filled p s))

-- the least size that an argument names: 1 to 5 decimal digits; else 0, which is refused
unfoldable pub named_size : List ℕ → ℕ
named_size a = pick (leb 1 (length a) && (leb (length a) 5 && all is_digit a)) (decimal_value a) 0

-- the least size that the program's words name, its own name among them: of two the second one's; of more 0, which is refused
abbrev pub asked_size : ℕ → List ℕ → ℕ
asked_size words a = pick (eqb words 2) (named_size a) 0

-- what `holds` prints for a file, the number of its words, and its argument a; with fewer than two words it has no argument
unfoldable pub program_text : ℕ → List ℕ → List ℕ → List ℕ
program_text words a f = pick (ltb words 2) (hold_text f) (picture_text (filled_list (asked_size words a)) f)

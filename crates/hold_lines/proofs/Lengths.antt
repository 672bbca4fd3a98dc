-- How long the line of a patch can be, and which numbers stand in it; the lines above it.
use Rattle.std.proofs.Common.{◌≡◌, ap, ap₂, ◌∙◌, List, [], ◌∷◌, ◌++◌, append_assoc, ℕ, ◌+◌, ◌*◌, ◌≤◌, ◌<◌, arith, length, get_or}
use Rattle.lists.specs.Blocks.{block_entry}
use Rattle.patch_records.specs.Records.{record_at}
use Rattle.centres.specs.Centres.{centre}
use Rattle.centres.proofs.Rounding.{centre-most}
use Rattle.text.specs.Decimal.{fields}
use Rattle.hold_lines.specs.Lines.{line_of}
use Rattle.hold_lines.specs.Figures.{line_at}
use Rattle.text.proofs.Decimals.{decimal-length, last-length, next-length}

-- the line of a patch
pub line-length :
    (a b c d e g : ℕ) → a < 10000 → b < 100000 → c < 100000 → d < 100000 → e < 1000000 → g < 1000000 →
    length (fields (a ∷ b ∷ c ∷ d ∷ e ∷ g ∷ [])) ≤ 37
line-length a b c d e g ha hb hc hd he hg =
    let la = decimal-length 3 a ha in
    let lb = decimal-length 4 b hb in
    let lc = decimal-length 4 c hc in
    let ld = decimal-length 4 d hd in
    let le = decimal-length 5 e he in
    let lg = decimal-length 5 g hg in
    let p = next-length a b (c ∷ d ∷ e ∷ g ∷ []) in
    let q = next-length b c (d ∷ e ∷ g ∷ []) in
    let r = next-length c d (e ∷ g ∷ []) in
    let s = next-length d e (g ∷ []) in
    let t = next-length e g [] in
    let u = last-length g in
    omega arith

-- a centre has at most six digits
pub centre-digits : (c s : ℕ) → c ≤ 65535 → centre c s < 1000000
centre-digits c s h = omega (arith, centre-most c s)

-- the numbers of a line, each equal to the figure it stands for
pub line-is :
    (c r : ℕ) {n s h d a b k m e g : ℕ} → a ≡ n → b ≡ s → k ≡ h → m ≡ d → e ≡ centre c s → g ≡ centre r s →
    fields (a ∷ b ∷ k ∷ m ∷ e ∷ g ∷ []) ≡ line_of n s h d c r
line-is c r pa pb pk pm pe pg = cc

-- the line of the patch i + 1 by its entries in the blocks
pub line_at-is :
    (n i : ℕ) (figures : List ℕ) {number s h d c r : ℕ} →
    i + 1 ≡ number → get_or figures i 0 ≡ s → block_entry figures (4 * n) i ≡ h → block_entry figures (3 * n) i ≡ d →
    block_entry figures n i ≡ c → block_entry figures (2 * n) i ≡ r →
    line_at n figures i ≡ line_of number s h d c r
unfolding record_at
line_at-is n i figures pn ps ph pd pc pr = line-is _ _ pn ps ph pd (ap₂ centre pc ps) (ap₂ centre pr ps)

-- the parts of the two lines above the patches, as they are written
pub head-is : (a b c d e f : List ℕ) → ((a ++ b) ++ (c ++ d)) ++ (e ++ f) ≡ a ++ (b ++ (c ++ (d ++ (e ++ f))))
head-is a b c d e f = append_assoc (a ++ b) (c ++ d) (e ++ f) ∙ (append_assoc a b ((c ++ d) ++ (e ++ f)) ∙ ap (λ (l : List ℕ). a ++ (b ++ l)) (append_assoc c d (e ++ f)))

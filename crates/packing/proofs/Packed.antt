-- Laws of 16-bit entries packed in bytes: one entry more, and zeros.
use Rattle.std.proofs.Common.{◌≡◌, refl, sym, ap, ap₂, subst, ◌∙◌, List, [], ◌∷◌, ◌++◌, append_assoc, append-nil, ℕ, zero, suc, ◌+◌, ◌*◌, ◌<◌, arith, add-one, length, get_or, take, drop, set, replicate, take-suc}
use Rattle.lists.proofs.Filling.{written_next}
use Rattle.text.specs.Little.{little_endian}
use Rattle.lists.specs.Writing.{Written}
use Rattle.lists.proofs.Writings.{written_then}
use Rattle.packing.specs.Packing.{entry_at, entries, packed}

-- one entry more is unpacked
pub unpacked-next :
    (bytes cells new : List ℕ) (i v : ℕ) → i < length cells → new ≡ entries i bytes ++ drop i cells → v ≡ entry_at bytes i →
    set new i v ≡ entries (i + 1) bytes ++ drop (i + 1) cells
unpacked-next bytes cells new i v h e w =
    ap₂ (λ (l : List ℕ) (x : ℕ). set l i x) e w ∙
    (written_next (entry_at bytes) i cells h ∙ ap (λ (n : ℕ). entries n bytes ++ drop n cells) (sym (add-one i)))

packed-append : (xs ys : List ℕ) → packed (xs ++ ys) ≡ packed xs ++ packed ys
packed-append [] ys = refl
packed-append (x ∷ xs) ys =
    ap (λ (l : List ℕ). little_endian 2 x ++ l) (packed-append xs ys) ∙ sym (append_assoc (little_endian 2 x) (packed xs) (packed ys))

-- one entry more is packed
pub packed-next :
    (cells a b c : List ℕ) (to next i : ℕ) → i < length cells → Written 0 (packed (take i cells)) a to b →
    Written to (little_endian 2 (get_or cells i 0)) b next c → Written 0 (packed (take (i + 1) cells)) a next c
packed-next cells a b c to next i h v w =
    let last = get_or cells i 0 in
    subst (λ (xs : List ℕ). Written 0 xs a next c)
    (sym
    (ap (λ (n : ℕ). packed (take n cells)) (add-one i) ∙
    (ap packed (take-suc cells i 0 h) ∙
    (packed-append (take i cells) (last ∷ []) ∙
    ap (λ (l : List ℕ). packed (take i cells) ++ l) (append-nil (little_endian 2 last))))))
    (written_then (omega arith) v w)

-- zero entries are zero bytes
pub packed-zeros : (m : ℕ) → packed (replicate m 0) ≡ replicate (2 * m) 0
packed-zeros zero = refl
packed-zeros (suc m) =
    let e : suc (suc (2 * m)) ≡ 2 * suc m = omega arith in
    ap (λ (l : List ℕ). 0 ∷ 0 ∷ l) (packed-zeros m) ∙ ap (λ (n : ℕ). replicate {A = ℕ} n 0) e

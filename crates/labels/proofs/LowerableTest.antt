-- The laws of the lowerable test.
use Rattle.std.proofs.Common.{◌≡◌, sym, subst, ◌∙◌, Bool, true, false, ◌≢◌, List, ℕ, suc, ◌-◌, ◌<◌, arith, length, get_or}
use Rattle.picture.specs.Pictures.{Picture, places, value_at, is_picture}
use Rattle.picture.specs.Labels.{labels}
use Rattle.picture.specs.Geometry.{neighbours_in}
use Rattle.picture.specs.Watersheds.{lowerable}
use Rattle.topology.proofs.Accepted.{accepted-is, picture-few}
use Rattle.labelling_laws.proofs.Agreeing.{is_single, Common, not-lowerable, label_small, common-end}

module _ (p : Picture) (a : is_picture p ≡ true) where
  pub labels-small : (k : ℕ) (l : List ℕ) → l ≡ labels p k → (y : ℕ) → y < places p → get_or l y 0 ≢ 65535
  labels-small k l e =
      subst (λ m. (y : ℕ) → y < places p → get_or m y 0 ≢ 65535) (sym e)
      (label_small p k (picture-few p a))

  module _ (x : ℕ) (h : x < places p) where
    pub value_none : value_at p x ≡ 0 → false ≡ lowerable p x
    value_none e = sym (not-lowerable p x h e)

    -- the label common to the neighbours of x in the section below its value
    pub lower-end :
        (m : ℕ) (l : List ℕ) (r : Bool) → value_at p x ≢ 0 → l ≡ labels p (value_at p x - 1) →
        Common l (neighbours_in p x) (length (neighbours_in p x)) m → r ≡ is_single m → r ≡ lowerable p x
    lower-end m l r d e c f =
        let v : value_at p x ≡ suc (value_at p x - 1) = omega arith in
        f ∙
        common-end p (value_at p x - 1) x (accepted-is p a).some h v m
        (subst (λ o. Common o (neighbours_in p x) (length (neighbours_in p x)) m) e c)

-- `union_find::comes_before` meets its contract.
use Rattle.std.proofs.Common.{arith, ℕ, ◌≡◌, ◌≤◌, ◌<◌, nat_lt, ⊎_elim}
use Rattle.std.proofs.lemmas.Bool.{cases_lt, lt-ltb, le-ltb, ne_eqb}
use Rattle.tree_laws.proofs.Chains.{Comes, comes-low, comes-high, comes-first, comes-last}
use Rattle.union_find.proofs.comes_before.Goals as goal

-- two places of one value come in their order
in-order : (k x y v u : ℕ) → u ≡ v → u ≡ k → Comes k x y v (nat_lt y x)
in-order k x y v u e h =
    ⊎_elim
    (λ (b : y < x). rw (lt-ltb y x b) (comes-first k x y v u e (omega arith) (omega arith) b))
    (λ (b : x ≤ y). rw (le-ltb y x b) (comes-last k x y v u e (omega arith) (omega arith) b))
    (cases_lt y x)

pub returns-then-v-k : goal.returns-then-v-k
returns-then-v-k c = rw (lt-ltb _ _ c.if-v-k.true) (comes-low _ _ _ _ _ c.from-v.ensures c.if-v-k.true)

pub returns-then-v-k-2 : goal.returns-then-v-k-2
returns-then-v-k-2 c = in-order _ _ _ _ _ c.from-v.ensures c.if-v-k-2.true

pub returns-else-v-k-2 : goal.returns-else-v-k-2
returns-else-v-k-2 c = rw (ne_eqb _ _ c.if-v-k-2.false) (comes-high _ _ _ _ _ c.from-v.ensures (omega arith))

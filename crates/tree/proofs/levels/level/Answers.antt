-- `tree::levels::level` meets its contract.
use Rattle.std.proofs.Common.{List, refl, ℕ, ◌<◌, arith}
use Rattle.picture.specs.Pictures.{Picture, places}
use Rattle.lists.specs.Blocks.{UntouchedOutside}
use Rattle.tree_laws.proofs.Chains.{NextOfValue}
use Rattle.tree_laws.proofs.Walks.{WalkReady}
use Rattle.tree_laws.proofs.ListWalks.{ListFrom}
use Rattle.tree_laws.proofs.Mapped.{Between, between-ready, between-list, list-ready, name-ready, name-map, map-from-ready}
use Rattle.tree.proofs.levels.level.Goals as goal

-- the pixels have joined: the list of the new roots begins
begun :
    {p : Picture} {k c x : ℕ} {l w m v : List ℕ} → Between p k c l w × NextOfValue p k 0 x × (k < 256) →
    WalkReady p k (places p) m v × UntouchedOutside (places p) (places p) w v → ListFrom p k c c x m v
begun b e = let low = b.2 in between-list _ _ _ _ _ _ _ _ (omega arith) b.0 b.1 e.0 e.1

pub join_pixels-requires : goal.join_pixels-requires
join_pixels-requires c = between-ready _ _ _ _ _ _ c.requires.0 c.requires.1

pub list_level-d-requires : goal.list_level-d-requires
list_level-d-requires c = list-ready (begun c.requires c.join_pixels.ensures)

pub number_level-requires : goal.number_level-requires
number_level-requires c =
    (name-ready (c.list_level-d.ensures.whole _ _ (begun c.requires c.join_pixels.ensures)) refl, c.requires.2)

-- the list is whole, and then the numbers are known
pub map_level-requires : goal.map_level-requires
map_level-requires c =
    let whole = c.list_level-d.ensures.whole _ _ (begun c.requires c.join_pixels.ensures) in
    map-from-ready (name-map _ _ _ _ _ _ _ _ _ whole c.number_level.ensures c.requires.1)

pub returns : goal.returns
returns c =
    let whole = c.list_level-d.ensures.whole _ _ (begun c.requires c.join_pixels.ensures) in
    c.map_level.ensures.between _ _ _ (name-map _ _ _ _ _ _ _ _ _ whole c.number_level.ensures c.requires.1)

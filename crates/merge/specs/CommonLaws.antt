-- Any number of histories that are compatible in pairs have a common extension that is a history: it repeats no request.
use Rattle.std.specs.Prelude.{◌≡◌, refl, false, List, [], ◌∷◌, ℕ}
use Rattle.history.specs.History.{Least, repeated}
use Rattle.history.specs.ExtensionLaws.{extends_refl, extends_trans}
use Rattle.history.specs.CoherenceLaws.{ExtendsAll, no_more, and, CompatibleWith, no_other, other, Pairwise, no_pair, pairs, least_with}
use Rattle.merge.specs.Merge.{appended}
use Rattle.merge.specs.MergeLaws.{appended_least, appended_distinct}

-- each of some lists repeats no request
pub data AllDistinct : List (List ℕ) → Type 0 where
  none : AllDistinct []
  also : {h : List ℕ} {hs : List (List ℕ)} → repeated h ≡ false → AllDistinct hs → AllDistinct (h ∷ hs)

-- a history that extends each of hs
pub data CommonHistory (hs : List (List ℕ)) : Type 0 where
  common_history : {n : List ℕ} → repeated n ≡ false → ExtendsAll n hs → CommonHistory hs

spread : {g h m : List ℕ} {hs : List (List ℕ)} → Least g h m → CommonHistory (m ∷ hs) → CommonHistory (g ∷ h ∷ hs)
spread l (common_history u (and x xs)) = common_history u (and (extends_trans x l.left) (and (extends_trans x l.right) xs))

collect : {g : List ℕ} {hs : List (List ℕ)} → repeated g ≡ false → AllDistinct hs → Pairwise hs → CompatibleWith g hs → CommonHistory (g ∷ hs)
collect {g} u none no_pair no_other = common_history u (and (extends_refl g) no_more)
collect {g} u (also {h = h} v vs) (pairs qs rs) (other p ps) =
    spread (appended_least v p) (collect {g = appended g h} (appended_distinct g h u) vs rs (least_with (appended_least v p) p ps qs))

pub common_of_histories : {hs : List (List ℕ)} → AllDistinct hs → Pairwise hs → CommonHistory hs
unfolding repeated
common_of_histories none no_pair = common_history {n = []} refl no_more
common_of_histories (also u us) (pairs p ps) = collect u us ps p

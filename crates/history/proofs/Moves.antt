-- A part of a list rotated in place: its last element goes to the part's front, and the rest of the list stays.
use mathlib.Core.Path.{◌≡◌, sym, ap, ◌∙◌}
use mathlib.Core.List.{List, [], ◌∷◌, ◌++◌, append_assoc}
use Prim.Native.Nat.{ℕ, ◌+◌, ◌-◌, ◌≤◌, ◌<◌}
use native.Mathlib.Omega.{arith}
use lib.ListN.{length, take, drop, get_or, length-append, length-drop}
use lib.Seq.{drop-drop, get_or-drop, take_at, drop_at, length-take-le, append_snoc}
use Rattle.basics.specs.Lists.{take_next, drop_take}
use Rattle.history.specs.Front.{rotated}
use Rattle.history.specs.FrontLaws.{rotated_last}

-- the list after `rotate(&mut h[to..from + 1])`
abbrev pub moved : List ℕ → ℕ → ℕ → List ℕ
moved h to from = take to h ++ (rotated (take (from + 1 - to) (drop to h)) ++ drop (from + 1 - to) (drop to h))

module _ (h : List ℕ) (to from : ℕ) (p : to ≤ from) (q : from < length h) where
  length_passed : length (take (from - to) (drop to h)) ≡ from - to
  length_passed = length-take-le (from - to) (drop to h) (rw length-drop (omega arith))

  back : to + (from - to) ≡ from
  back = omega arith

  -- the seam behind the place that the element went to
  to_seam : moved h to from ≡ (take to h ++ get_or h from 0 ∷ []) ++ (take (from - to) (drop to h) ++ drop (from + 1) h)
  to_seam =
      let size : from + 1 - to ≡ (from - to) + 1 = omega arith in
      let end : to + (from - to + 1) ≡ from + 1 = omega arith in
      rw (size, take_next (drop to h) (from - to) (rw length-drop (omega arith)), rotated_last, get_or-drop, back, drop-drop, end)
      (sym (append_snoc (take to h) (get_or h from 0) (take (from - to) (drop to h) ++ drop (from + 1) h)))

  to_length : length (take to h ++ get_or h from 0 ∷ []) ≡ to + 1
  to_length = rw (length-append, length-take-le to h (omega arith))

  pub moved_head : take (to + 1) (moved h to from) ≡ take to h ++ get_or h from 0 ∷ []
  moved_head = rw to_seam (take_at _ _ (to + 1) to_length)

  pub moved_rest : drop (to + 1) (moved h to from) ≡ take (from - to) (drop to h) ++ drop (from + 1) h
  moved_rest = rw to_seam (drop_at (take to h ++ get_or h from 0 ∷ []) _ (to + 1) to_length)

  -- the seam behind the place that it came from
  from_seam : moved h to from ≡ (take to h ++ get_or h from 0 ∷ take (from - to) (drop to h)) ++ drop (from + 1) h
  from_seam =
      to_seam ∙ append_snoc (take to h) (get_or h from 0) (take (from - to) (drop to h) ++ drop (from + 1) h)
      ∙ sym (append_assoc (take to h) (get_or h from 0 ∷ take (from - to) (drop to h)) (drop (from + 1) h))

  from_length : length (take to h ++ get_or h from 0 ∷ take (from - to) (drop to h)) ≡ from + 1
  from_length = rw (length-append, length-take-le to h (omega arith), length_passed) (omega arith)

  pub moved_take : take (from + 1) (moved h to from) ≡ take to h ++ get_or h from 0 ∷ drop to (take from h)
  moved_take =
      rw from_seam
      (take_at _ _ (from + 1) from_length
      ∙ ap (λ (l : List ℕ). take to h ++ get_or h from 0 ∷ l)
      (sym (drop_take to from h)))

  pub moved_drop : drop (from + 1) (moved h to from) ≡ drop (from + 1) h
  moved_drop = rw from_seam (drop_at (take to h ++ get_or h from 0 ∷ take (from - to) (drop to h)) _ (from + 1) from_length)

  pub moved_length : length (moved h to from) ≡ length h
  moved_length = rw (from_seam, length-append, from_length, length-drop) (omega arith)

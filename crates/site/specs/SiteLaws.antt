-- What a seated site has, and what a valid view-change record is.
use Rattle.std.specs.Prelude.{◌≡◌, true, false, not, ℕ, ◌≤◌, ◌<◌, ltb}
use Rattle.std.proofs.Common.{leb-true, ltb-true, pow_pos}
use Rattle.std.proofs.lemmas.Bool.{not-true}
use Rattle.basics.specs.Bools.{and_left, and_right}
use Rattle.roster.specs.declared.Roster.{Roster}
use Rattle.roster.specs.Roster.{valid_roster}
use Rattle.roster.specs.Mask.{beyond}
use Rattle.roster.specs.MaskLaws.{beyond_false}
use Rattle.frame.specs.Layout.{longest}
use Rattle.site.specs.declared.ViewRecord.{ViewRecord}
use Rattle.site.specs.Site.{seated, valid_record, fresh}

-- a valid roster, an own number that is one of its sites, and room for the longest line
pub record Seated (r : Roster) (own room : ℕ) : Type 0 where
  pub roster : valid_roster r ≡ true
  pub member : own < r.n
  pub roomy : longest ≤ room

pub seated_is : (r : Roster) (own room : ℕ) → seated r own room ≡ true → Seated r own room
unfolding seated
seated_is r own room e =
    let rest = and_right (valid_roster r) _ e in
    record {
      roster = and_left (valid_roster r) _ e;
      member = ltb-true own r.n (and_left (ltb own r.n) _ rest);
      roomy = leb-true longest room (and_right (ltb own r.n) _ rest);
    }

-- masks with no bit at n or above
pub record Inside (n : ℕ) (v : ViewRecord) : Type 0 where
  pub suspicions : beyond v.suspicions n ≡ false
  pub changes : beyond v.changes n ≡ false

pub valid_inside : (n : ℕ) (v : ViewRecord) → valid_record n v ≡ true → Inside n v
unfolding valid_record
valid_inside n v e =
    record {
      suspicions = not-true (beyond v.suspicions n) (and_left (not (beyond v.suspicions n)) _ e);
      changes = not-true (beyond v.changes n) (and_right (not (beyond v.suspicions n)) _ e);
    }

pub inside_valid : (n : ℕ) (v : ViewRecord) → Inside n v → valid_record n v ≡ true
unfolding valid_record
inside_valid n v p = rw (p.suspicions, p.changes)

-- a fresh record has none set
pub fresh_inside : (n : ℕ) → Inside n fresh
fresh_inside n = record { suspicions = (beyond_false 0 n).1 (pow_pos n); changes = (beyond_false 0 n).1 (pow_pos n) }

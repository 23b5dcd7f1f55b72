-- Views and ballots compared. "Ballots and views are both 32-bit counts from 0; sites have logged a view as a ballot, and the two counts are to
-- be unmistakable everywhere": each comparison takes two of one type.
use Rattle.std.specs.Prelude.{Bool, leb, ltb, eqb}
use Rattle.roster.specs.declared.View.{View}
use Rattle.roster.specs.declared.Ballot.{Ballot}

abbrev pub same_view : View → View → Bool
same_view v w = eqb v.0 w.0

-- v comes after w
abbrev pub later_view : View → View → Bool
later_view v w = ltb w.0 v.0

abbrev pub zero_view : View → Bool
zero_view v = eqb v.0 0

-- the last view of 32 bits
abbrev pub last_view : View → Bool
last_view v = leb 4294967295 v.0

abbrev pub same_ballot : Ballot → Ballot → Bool
same_ballot b c = eqb b.0 c.0

-- b comes after c
abbrev pub later_ballot : Ballot → Ballot → Bool
later_ballot b c = ltb c.0 b.0

abbrev pub zero_ballot : Ballot → Bool
zero_ballot b = eqb b.0 0

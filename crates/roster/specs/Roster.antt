-- The roster's figures. "N sites, numbered from 0; f of them may lie. 4 ≤ N ≤ 16, f ≥ 1, N ≥ 3f+1. The quorum is N-f, and these
-- figures belong to the roster's own type."
use Rattle.std.specs.Prelude.{ℕ, ◌+◌, ◌-◌, ◌*◌, ◌%◌, Bool, cond, ◌&&◌, leb, eqb}
use Rattle.roster.specs.declared.Roster.{Roster}
use Rattle.roster.specs.declared.View.{View}

-- 4 ≤ N ≤ 16, f ≥ 1, N ≥ 3f+1
unfoldable pub valid_roster : Roster → Bool
valid_roster s = leb 4 s.n && leb s.n 16 && leb 1 s.f && leb (3 * s.f + 1) s.n

-- "The quorum is N-f"; none where f is above N
unfoldable pub quorum : Roster → ℕ
quorum s = s.n - s.f

-- f+1, the size of a weak certificate: so many sites have one among them that does not lie
unfoldable pub weak_certificate : Roster → ℕ
weak_certificate s = s.f + 1

-- the leader of a view: "view mod N"; 0 where there are no sites
unfoldable pub leader_of : Roster → View → ℕ
leader_of s v = cond (eqb s.n 0) 0 (v.0 % s.n)

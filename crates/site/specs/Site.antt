-- A site: its roster, its own number and the buffer lent to it; the flags of lent state; and the view-change record.
use Rattle.std.specs.Prelude.{Bool, not, ◌&&◌, ℕ, leb, ltb, eqb}
use Rattle.roster.specs.declared.Roster.{Roster}
use Rattle.roster.specs.Roster.{valid_roster}
use Rattle.roster.specs.Mask.{beyond}
use Rattle.frame.specs.Layout.{longest}
use Rattle.site.specs.declared.ViewRecord.{ViewRecord}

-- whether CONFIG finds nothing wrong with roster, own number and buffer: no "roster outside the figures above; own number ≥ N or output buffer
-- under 1,061 bytes (the longest line)"
unfoldable pub seated : Roster → ℕ → ℕ → Bool
seated r own room = valid_roster r && (ltb own r.n && leb longest room)

-- and nothing with the record: no "mask bit at N or above"
unfoldable pub valid_record : ℕ → ViewRecord → Bool
valid_record n v = not (beyond v.suspicions n) && not (beyond v.changes n)

-- a flag that the host lends is a number, 0 or not 0
abbrev pub is_set : ℕ → Bool
is_set n = not (eqb n 0)

-- "the view-change record at 0"
abbrev pub fresh : ViewRecord
fresh = record { view = record { 0 = 0 }; suspicions = 0; target = record { 0 = 0 }; changes = 0 }

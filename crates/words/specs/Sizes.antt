-- How long a history may be, which is a rule, and how much room its words have, which is a capacity.
use Rattle.std.specs.Prelude.{ℕ}

-- "A history holds at most 32 commands": the rule, handed to the definitions that need it
abbrev pub limit : ℕ
limit = 32

-- how many words the array of a history and a row of a table have
abbrev pub capacity : ℕ
capacity = 32

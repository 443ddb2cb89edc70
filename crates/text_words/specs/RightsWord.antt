-- The spelling of rights.
use Rattle.std.specs.Prelude.{ℕ, Bool, true, false, List, codes}
use Rattle.base.specs.declared.sets.Rights.{Rights}

-- a letter for each of reading and writing that is allowed, or a dash
abbrev pub letters_of_rights : Bool → Bool → List ℕ
letters_of_rights true true = codes "rw"
letters_of_rights true false = codes "r"
letters_of_rights false true = codes "w"
letters_of_rights false false = codes "-"

abbrev pub rights_text : Rights → List ℕ
rights_text rights = letters_of_rights rights.read rights.write

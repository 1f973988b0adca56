-- How the code's parts of the decoded bytes tell the definitions' parts.
-- Assumes nothing.
use Rattle.foundation.specs.Results.{Part, ◌from◌}
use Rattle.foundation.specs.declared.Located.{Located}

abbrev pub told_part : Located → Part
told_part s = ◌from◌ s.base s.bytes.now

-- What an iterator over the elements of a row gives.
use Rattle.std.specs.Prelude.{◌≡◌, None, Option, Some}
use Rattle.xml.specs.Tree.{none}
use Rattle.elements.specs.Reading.{forest_at}
use Rattle.elements.specs.StartSteps.{ItemOf}
use Rattle.elements.specs.declared.starts.Start.{Start}
use Rattle.index_values.specs.declared.rows.EachStart.{EachStart}

-- the first element of the row, and the row behind it is left; or the row is empty
abbrev pub GivesStart : EachStart → Option Start → EachStart → Type 0
GivesStart e None after = (forest_at e.text.now e.at ≡ none) × (after ≡ e)
GivesStart e (Some h) after = ItemOf e.text.now e.at h after.at × (after.text.now ≡ e.text.now)

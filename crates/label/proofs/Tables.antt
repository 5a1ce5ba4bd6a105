-- The tables that the label's reader hands to `children::read_row` are the rules for the label's children.
use mathlib.Core.Path.{◌≡◌, refl}
use Rattle.slices.specs.Words.{bytes}
use Rattle.children.specs.RowSteps.{is_rule_mark, longer, rules}
use Rattle.label.specs.Label.{of_root, of_location, of_partitions}

pub root_table : rules (bytes "creator=formattime=volumeuuid=location/partitions/blocksize=compression=") ≡ of_root
unfolding bytes rules longer is_rule_mark
root_table = refl

pub location_table : rules (bytes "partition=") ≡ of_location
unfolding bytes rules longer is_rule_mark
location_table = refl

pub partitions_table : rules (bytes "index=data=") ≡ of_partitions
unfolding bytes rules longer is_rule_mark
partitions_table = refl

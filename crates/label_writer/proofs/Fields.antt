-- When given fields are lawful.
use mathlib.Core.Path.{◌≡◌}
use mathlib.Core.Bool.{Bool, true, false, ◌&&◌}
use Rattle.slices.proofs.Booleans.{and_left, and_right}
use Rattle.quantities.specs.Letters.{is_letter}
use Rattle.quantities.specs.Sizes.{is_block_size}
use Rattle.values.specs.Values.{is_creator, is_time, is_uuid}
use Rattle.label.specs.Label.{Label, letters_fit}
use Rattle.label_writer.specs.Text.{are_numbers, is_lawful_label, is_given}

module _ (f : Label) where
  abbrev texts : Bool
  texts = is_creator f.creator && is_time f.time && is_uuid f.uuid

  abbrev numbers : Bool
  numbers = are_numbers f.location f.index_letter f.data_letter f.block_size

pub unlawful : (f : Label) → is_lawful_label f ≡ false → is_given f ≡ false
unfolding is_given
unlawful f e = rw e

-- each field in its rule
pub record Rules (f : Label) : Type 0 where
  pub creator : is_creator f.creator ≡ true
  pub time : is_time f.time ≡ true
  pub uuid : is_uuid f.uuid ≡ true
  pub location : is_letter f.location ≡ true
  pub index_letter : is_letter f.index_letter ≡ true
  pub data_letter : is_letter f.data_letter ≡ true
  pub fit : letters_fit f.location f.index_letter f.data_letter ≡ true
  pub block_size : is_block_size f.block_size ≡ true

first : {a b c d e : Bool} → (a && b && c && d && e) ≡ true → (a ≡ true) × (b ≡ true) × (c ≡ true) × (d ≡ true) × (e ≡ true)
first {a} {b} {c} {d} {e} h =
    let p = and_left (a && b && c && d) e h in
    let q = and_left (a && b && c) d p in
    let r = and_left (a && b) c q in
    (and_left a b r, and_right a b r, and_right (a && b) c q, and_right (a && b && c) d p, and_right (a && b && c && d) e h)

pub in_rules : (f : Label) → is_lawful_label f ≡ true → Rules f
unfolding is_lawful_label are_numbers
in_rules f h =
    let t : texts f ≡ true = and_left (texts f) (numbers f) h in
    let (l, i, d, g, b) = first (and_right (texts f) (numbers f) h) in
    let u : (is_creator f.creator && is_time f.time) ≡ true = and_left (is_creator f.creator && is_time f.time) (is_uuid f.uuid) t in
    record {
      creator = and_left (is_creator f.creator) (is_time f.time) u;
      time = and_right (is_creator f.creator) (is_time f.time) u;
      uuid = and_right (is_creator f.creator && is_time f.time) (is_uuid f.uuid) t;
      location = l;
      index_letter = i;
      data_letter = d;
      fit = g;
      block_size = b;
    }

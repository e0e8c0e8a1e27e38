-- Examples of the tower file, of each of the 22 refusals and of their order, as one table about the machine.
use Rattle.std.specs.Prelude.{ℕ, ◌-◌, ◌/◌, ◌≡◌, Bool, true, false, List, [], ◌∷◌, ◌++◌, map, eqb, length, replicate}
use Rattle.std.proofs.Math.Option.{none, some}
use Rattle.model.specs.declared.Legs.TheVariants.{Three, Four}
use Rattle.model.specs.declared.Member.TheVariants.{Flat, Round}
use Rattle.model.specs.declared.Flow.TheVariants.{Subcritical}
use Rattle.model.specs.declared.Item.{Item}
use Rattle.model.specs.Lists.{list_to, all_of}
use Rattle.model.specs.Tower.{Section, Tower, Wind}
use Rattle.model.specs.Areas.{thickness, flow_of}
use Rattle.model.specs.Reading.{got}
use Rattle.model.specs.File.{read_file}
use Rattle.model.specs.Bytes.{bytes, file_of}
use Rattle.model.specs.Machine.{no_tower, standing}
use Rattle.model.specs.Report.{section_at, exceeds, TopmostOver}
use Rattle.model.specs.Host.{pressures_of, host_refusal}
use Rattle.model.specs.Valid.{ValidWind}
use Rattle.model.specs.Calls.{Call, erect, hang, take_down, wind, report, check, write, refusal_of, lent_after, run}

-- a file of one section, b by h, of n groups, and of m items
unfoldable pub file_with : ℕ → ℕ → ℕ → ℕ → List ℕ → ℕ → List ℕ → List ℕ
file_with legs b h n groups m items =
    bytes 1 legs ++ (bytes 1 1 ++ (bytes 2 b ++ (bytes 2 h ++ (bytes 4 0 ++ (bytes 1 n ++ (groups ++ (bytes 1 m ++ items)))))))

unfoldable pub group : ℕ → ℕ → ℕ → List ℕ
group kind size length = bytes 1 kind ++ (bytes 2 size ++ bytes 4 length)

unfoldable pub item_with : ℕ → ℕ → ℕ → List ℕ
item_with number section width =
    bytes 2 number ++ (bytes 1 section ++ (bytes 2 width ++ (bytes 2 2000 ++ (bytes 2 1200 ++ (bytes 2 1500 ++ bytes 2 800)))))

-- one section of 2 000 by 6 000 with a flat group of 100 by 24 000, on these legs
unfoldable pub plain : ℕ → List ℕ
plain legs = file_with legs 2000 6000 1 (group 0 100 24_000) 0 []

-- an item with these fields
abbrev pub item : ℕ → ℕ → ℕ → ℕ → ℕ → ℕ → ℕ → Item
item number section width length bare iced position =
    record {
      number = number;
      section = section;
      width = record { 0 = width };
      length = record { 0 = length };
      bare = bare;
      iced = iced;
      position = position;
    }

-- and with this number, section and width
unfoldable pub item_of : ℕ → ℕ → ℕ → Item
item_of number section width = item number section width 2000 1200 1500 800

unfoldable pub wind_with : ℕ → ℕ → ℕ → List ℕ → Call
wind_with k ice factor ps = wind (record { direction = k; ice = ice; factor = factor; pressures = ps })

-- after these calls from a fresh service, this call has that refusal; 0: it is accepted
pub record Example : Type 0 where
  pub before : List Call
  pub call : Call
  pub refusal : ℕ

unfoldable pub gives : List Call → Call → ℕ → Example
gives before call refusal = record { before = before; call = call; refusal = refusal }

unfoldable pub holds : Example → Bool
holds x = eqb (refusal_of (run no_tower x.before) x.call) x.refusal

-- beginnings of lists: a tower of four legs, its first n items, and a wind
abbrev pub erect_four : List Call
erect_four = erect (plain 4) ∷ []

abbrev pub hang_first : ℕ → List Call
hang_first n = erect (plain 4) ∷ list_to (λ i. hang (item_of i 0 300)) n

abbrev pub second_wind : Wind
second_wind = record { direction = 3; ice = 2; factor = 1000; pressures = 1000 ∷ [] }

abbrev pub steady : Call
steady = wind_with 0 0 1000 (1000 ∷ [])

-- a triangle of one section with a supercritical tube
unfoldable pub triangle : Tower
triangle =
    record {
      legs = Three;
      sections =
          record {
            width = record { 0 = 2000 };
            height = record { 0 = 5000 };
            allowance = record { 0 = 9000 };
            groups = record { member = Round (record { 0 = 300 }); length = record { 0 = 6100 } } ∷ [];
          }
          ∷ [];
      items = [];
    }

-- 32 sections of 8 groups, and 64 items
unfoldable pub largest_tower : Tower
largest_tower =
    record {
      legs = Three;
      sections =
          replicate 32
          (record {
            width = record { 0 = 15_000 };
            height = record { 0 = 10_000 };
            allowance = record { 0 = 4_294_967_295 };
            groups = replicate 8 (record { member = Round (record { 0 = 75 }); length = record { 0 = 200_000 } });
          });
      items = list_to (λ i. item_of (65_535 - i) (i / 2) 3000) 64;
    }

unfoldable pub files : List Example
files =
    gives [] (erect (plain 4)) 0
    ∷ gives [] (erect []) 2
    ∷ gives [] (erect (4 ∷ [])) 2
    ∷ gives [] (erect (5 ∷ [])) 3
    ∷ gives [] (erect (4 ∷ 0 ∷ [])) 4
    ∷ gives [] (erect (4 ∷ 33 ∷ [])) 4
    ∷ gives [] (erect (4 ∷ 1 ∷ 0 ∷ 99 ∷ [])) 5
    ∷ gives [] (erect (file_with 4 2000 6001 1 (group 0 100 24_000) 0 [])) 5
    ∷ gives [] (erect (file_with 4 2000 10_002 1 (group 0 100 24_000) 0 [])) 5
    ∷ gives [] (erect (file_with 4 2000 98 1 (group 0 100 100) 0 [])) 5
    ∷ gives [] (erect (file_with 4 2000 100 1 (group 0 100 100) 0 [])) 0
    ∷ gives [] (erect (file_with 4 2000 6000 0 [] 0 [])) 6
    ∷ gives [] (erect (file_with 4 2000 6000 9 [] 0 [])) 6
    ∷ gives [] (erect (file_with 4 2000 6000 1 (group 2 100 24_000) 0 [])) 7
    ∷ gives [] (erect (file_with 4 2000 6000 1 (group 0 1001 24_000) 0 [])) 7
    ∷ gives [] (erect (file_with 4 2000 6000 1 (group 1 100 200_001) 0 [])) 7
    -- A_S equal to A_u is accepted; 1 mm² more is 8
    ∷ gives [] (erect (file_with 4 2000 6000 1 (group 0 1000 12_000) 0 [])) 0
    ∷ gives [] (erect (file_with 4 2000 6000 2 (group 0 1000 12_000 ++ group 1 1 1) 0 [])) 8
    -- 8 only after the last group
    ∷ gives [] (erect (file_with 4 2000 6000 2 (group 0 1000 24_000 ++ group 2 1 1) 0 [])) 7
    ∷ gives [] (erect (file_with 4 2000 6000 1 (group 0 100 24_000) 65 [])) 9
    ∷ gives [] (erect (file_with 4 2000 6000 1 (group 0 100 24_000) 2 (item_with 7 0 300 ++ item_with 7 9 3001))) 10
    ∷ gives [] (erect (file_with 4 2000 6000 1 (group 0 100 24_000) 1 (item_with 7 1 3001))) 11
    ∷ gives [] (erect (file_with 4 2000 6000 1 (group 0 100 24_000) 1 (item_with 7 0 3001))) 12
    ∷ gives [] (erect (plain 4 ++ (0 ∷ []))) 13
    ∷ gives [] (erect (file_with 3 2000 6000 1 (group 0 100 24_000) 1 (item_with 7 0 300))) 0
    -- the largest file
    ∷ gives [] (erect (file_of largest_tower)) 0
    ∷ []

unfoldable pub calls : List Example
calls =
    gives [] (hang (item_of 7 0 300)) 1
    ∷ gives [] (take_down 7) 1
    ∷ gives [] steady 1
    ∷ gives [] (report []) 1
    ∷ gives [] check 1
    ∷ gives [] (write []) 1
    -- 64 items hold; the 65th is 9, whatever else is wrong with it
    ∷ gives (hang_first 63) (hang (item_of 63 0 300)) 0
    ∷ gives (hang_first 64) (hang (item_of 64 0 300)) 9
    ∷ gives (hang_first 64) (hang (item_of 7 1 3001)) 9
    ∷ gives (hang_first 8) (hang (item_of 7 1 3001)) 10
    ∷ gives (hang_first 8) (hang (item_of 263 0 300)) 0
    ∷ gives (hang_first 7) (hang (item_of 7 1 3001)) 11
    ∷ gives (hang_first 7) (hang (item_of 7 0 3001)) 12
    ∷ gives (hang_first 7) (take_down 7) 14
    ∷ gives (hang_first 8) (take_down 7) 0
    ∷ gives (hang_first 8 ++ (take_down 7 ∷ [])) (take_down 7) 14
    ∷ gives erect_four (wind_with 24 6 499 []) 15
    ∷ gives (erect (plain 3) ∷ []) (wind_with 1 0 1000 (1000 ∷ [])) 15
    ∷ gives (erect (plain 3) ∷ []) (wind_with 2 0 1000 (1000 ∷ [])) 0
    ∷ gives erect_four (wind_with 1 6 499 []) 16
    ∷ gives erect_four (wind_with 1 5 499 []) 17
    ∷ gives erect_four (wind_with 1 5 2001 []) 17
    ∷ gives erect_four (wind_with 1 5 500 []) 18
    ∷ gives erect_four (wind_with 1 5 500 (5001 ∷ [])) 19
    -- iced A_S equal to A_u is accepted; above it is 20
    ∷ gives (erect (file_with 4 2000 6000 1 (group 0 480 24_000) 0 []) ∷ []) (wind_with 0 1 1000 (0 ∷ [])) 0
    ∷ gives (erect (file_with 4 2000 6000 1 (group 0 481 24_000) 0 []) ∷ []) (wind_with 0 1 1000 (0 ∷ [])) 20
    ∷ gives erect_four (report []) 21
    ∷ gives erect_four check 21
    ∷ gives (erect_four ++ (steady ∷ [])) (report (replicate 5 0)) 22
    ∷ gives (erect_four ++ (steady ∷ [])) (report (replicate 6 0)) 0
    ∷ gives (erect_four ++ (steady ∷ [])) check 0
    ∷ gives erect_four (write (replicate 18 0)) 22
    ∷ gives erect_four (write (replicate 19 0)) 0
    -- a refused wind leaves the one before it, erect leaves none
    ∷ gives (erect_four ++ (steady ∷ wind_with 24 0 1000 (1000 ∷ []) ∷ [])) check 0
    ∷ gives (erect_four ++ (steady ∷ erect (plain 4) ∷ [])) check 21
    ∷ gives (erect_four ++ (steady ∷ erect [] ∷ [])) check 0
    ∷ []

-- the tower of `plain 4`
unfoldable pub plain_tower : List Item → Tower
plain_tower items =
    record {
      legs = Four;
      sections =
          record {
            width = record { 0 = 2000 };
            height = record { 0 = 6000 };
            allowance = record { 0 = 0 };
            groups = record { member = Flat (record { 0 = 100 }); length = record { 0 = 24_000 } } ∷ [];
          }
          ∷ [];
      items = items;
    }

abbrev pub allowing : Section → ℕ → Section
allowing x newtons = record { width = x.width; height = x.height; allowance = record { 0 = newtons }; groups = x.groups }

-- three sections like it, with these allowances, and a wind of 1 000 N/m² on each: the shears are 7 033, 14 066 and 21
-- 099 N
unfoldable pub three_allowing : ℕ → ℕ → ℕ → Tower
three_allowing upper middle lower =
    record { legs = Four; sections = map (allowing (section_at (plain_tower []) 0)) (upper ∷ middle ∷ lower ∷ []); items = [] }

unfoldable pub three_pressed : Wind
three_pressed = record { direction = 0; ice = 0; factor = 1000; pressures = 1000 ∷ 1000 ∷ 1000 ∷ [] }

pub record MachineExamples : Type 0 where
  -- the bytes themselves, high byte first
  pub file : plain 4 ≡ 4 ∷ 1 ∷ 7 ∷ 208 ∷ 23 ∷ 112 ∷ 0 ∷ 0 ∷ 0 ∷ 0 ∷ 1 ∷ 0 ∷ 0 ∷ 100 ∷ 0 ∷ 0 ∷ 93 ∷ 192 ∷ 0 ∷ []
  pub read : read_file (plain 4) ≡ got (plain_tower []) []
  pub written : file_of (plain_tower []) ≡ plain 4
  pub largest_length : length (file_of largest_tower) ≡ 2915
  pub read_files : all_of holds files ≡ true
  pub turned_down : all_of holds calls ≡ true
  -- an item joins at the list's end; the others keep their order
  pub order : run no_tower (hang_first 3 ++ (take_down 1 ∷ hang (item_of 1 0 400) ∷ []))
      ≡ standing (plain_tower (item_of 0 0 300 ∷ item_of 2 0 300 ∷ item_of 1 0 400 ∷ [])) none
  -- a wind replaces the one before it, and stays while items come and go
  pub second-wind : run no_tower (erect_four ++ (steady ∷ wind second_wind ∷ hang (item_of 7 0 300) ∷ hang (item_of 8 0 300) ∷ take_down 7 ∷ []))
      ≡ standing (plain_tower (item_of 8 0 300 ∷ [])) (some second_wind)
  -- towers and winds that are valid
  pub valid_square : ValidWind (plain_tower (item_of 7 0 300 ∷ [])) second_wind
  pub valid_triangle : ValidWind triangle (record { direction = 2; ice = 0; factor = 2000; pressures = 5000 ∷ [] })
  -- the C call: 18 is a count of bytes, 22 comes last
  pub host : host_refusal (plain 4) 0 0 1000 (3 ∷ 232 ∷ []) 48 ≡ 0
  pub host_file_first : host_refusal (5 ∷ []) 24 0 1000 [] 0 ≡ 3
  pub host_direction_first : host_refusal (plain 4) 24 0 1000 [] 0 ≡ 15
  pub host_odd : host_refusal (plain 4) 0 0 1000 (3 ∷ 232 ∷ 0 ∷ []) 48 ≡ 18
  pub host_pressure : host_refusal (plain 4) 0 0 1000 (19 ∷ 137 ∷ []) 48 ≡ 19
  pub host_short : host_refusal (plain 4) 0 0 1000 (3 ∷ 232 ∷ []) 47 ≡ 22
  pub host_pressures : pressures_of (3 ∷ 232 ∷ 0 ∷ 7 ∷ []) ≡ 1000 ∷ 7 ∷ []
  -- write at the front of the lent bytes, and the rest stays
  pub write_out : lent_after (standing (plain_tower []) none) (write (replicate 21 9)) ≡ plain 4 ++ (9 ∷ 9 ∷ [])
  pub write_refused : lent_after (standing (plain_tower []) none) (write (replicate 18 9)) ≡ replicate 18 9
  -- a shear that is equal to the allowance does not exceed it, and 0 is no allowance
  pub exceeded : exceeds (record { 0 = 501 }) (record { 0 = 500 }) ≡ true
  pub reached : exceeds (record { 0 = 500 }) (record { 0 = 500 }) ≡ false
  pub not_stated : exceeds (record { 0 = 501 }) (record { 0 = 0 }) ≡ false
  -- of several sections over their allowances the topmost; one that states none is not over, nor one whose shear is
  -- equal to it
  pub topmost_of_three : TopmostOver (three_allowing 7032 14_065 21_098) three_pressed 0
  pub topmost_stated : TopmostOver (three_allowing 0 14_065 21_098) three_pressed 1
  pub topmost_exceeded : TopmostOver (three_allowing 7033 14_066 21_098) three_pressed 2
  -- under ice every round is subcritical
  pub iced_round : flow_of (thickness 1) 5000 (Round (record { 0 = 1000 })) ≡ Subcritical

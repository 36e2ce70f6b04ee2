-- The rows of each length, of those that share a divisor.
use Rattle.std.proofs.Common.{ℕ, ◌++◌, map}
use Rattle.flat_rows.specs.declared.short_rows.ShortRows.TheInside.{Inside}
use Rattle.flat_rows.specs.contracts.short_rows.ShortRows.{the_view}
use Rattle.flat_rows.specs.Laid.{short_row}
use Rattle.flat_rows.specs.RowsOf.{AreFit}
use Rattle.flat_rows.proofs.PlacedRows.{fit_left, fit_right}

-- the rows of each length fit
pub record PartsFit (states places : ℕ) (s : Inside) : Type 0 where
  pub twos : AreFit states places (map (short_row s.divisor) s.twos.items)
  pub threes : AreFit states places (map (short_row s.divisor) s.threes.items)
  pub fours : AreFit states places (map (short_row s.divisor) s.fours.items)
  pub fives : AreFit states places (map (short_row s.divisor) s.fives.items)
  pub sixes : AreFit states places (map (short_row s.divisor) s.sixes.items)
  pub sevens : AreFit states places (map (short_row s.divisor) s.sevens.items)
  pub eights : AreFit states places (map (short_row s.divisor) s.eights.items)

pub parts_fit : {states places : ℕ} (s : Inside) → AreFit states places (the_view s).rows → PartsFit states places s
parts_fit {states} {places} s h =
    let twos = map (short_row s.divisor) s.twos.items in
    let threes = map (short_row s.divisor) s.threes.items in
    let fours = map (short_row s.divisor) s.fours.items in
    let fives = map (short_row s.divisor) s.fives.items in
    let sixes = map (short_row s.divisor) s.sixes.items in
    let sevens = map (short_row s.divisor) s.sevens.items in
    let eights = map (short_row s.divisor) s.eights.items in
    let from_seven = sevens ++ eights in
    let from_six = sixes ++ from_seven in
    let from_five = fives ++ from_six in
    let from_four = fours ++ from_five in
    let from_three = threes ++ from_four in
    let after_two : AreFit states places from_three = fit_right twos from_three h in
    let after_three : AreFit states places from_four = fit_right threes from_four after_two in
    let after_four : AreFit states places from_five = fit_right fours from_five after_three in
    let after_five : AreFit states places from_six = fit_right fives from_six after_four in
    let after_six : AreFit states places from_seven = fit_right sixes from_seven after_five in
    record {
      twos = fit_left twos from_three h;
      threes = fit_left threes from_four after_two;
      fours = fit_left fours from_five after_three;
      fives = fit_left fives from_six after_four;
      sixes = fit_left sixes from_seven after_five;
      sevens = fit_left sevens eights after_six;
      eights = fit_right sevens eights after_six;
    }

use Rattle.std.proofs.Common.{map}
use Rattle.flat_rows.specs.Laid.{short_row}
use Rattle.flat_rows.proofs.PlacedRows.{inserts_after, inserts_before, inserts_pushed, inserts_seen}
use Rattle.flat_rows.proofs.short_rows.ShortRows.push.Goals as goal

pub returns-in_ok-push-in-2 : goal.returns-in_ok-push-in-2
returns-in_ok-push-in-2 c =
    let s = c.self.inside in
    inserts_seen 2 c.self.view_is c.scaled.ensures.place c.scaled.ensures.entries
    (inserts_before _ (inserts_pushed (short_row s.divisor) s.twos.items _ _ c.in_ok-push-in-2.ensures.items))

pub returns-in_ok-push-in-3 : goal.returns-in_ok-push-in-3
returns-in_ok-push-in-3 c =
    let s = c.self.inside in
    inserts_seen 3 c.self.view_is c.scaled-in-3.ensures.place c.scaled-in-3.ensures.entries
    (inserts_after (map (short_row s.divisor) s.twos.items)
    (inserts_before _ (inserts_pushed (short_row s.divisor) s.threes.items _ _ c.in_ok-push-in-3.ensures.items)))

pub returns-in_ok-push-in-4 : goal.returns-in_ok-push-in-4
returns-in_ok-push-in-4 c =
    let s = c.self.inside in
    inserts_seen 4 c.self.view_is c.scaled-in-4.ensures.place c.scaled-in-4.ensures.entries
    (inserts_after (map (short_row s.divisor) s.twos.items)
    (inserts_after (map (short_row s.divisor) s.threes.items)
    (inserts_before _ (inserts_pushed (short_row s.divisor) s.fours.items _ _ c.in_ok-push-in-4.ensures.items))))

pub returns-in_ok-push-in-5 : goal.returns-in_ok-push-in-5
returns-in_ok-push-in-5 c =
    let s = c.self.inside in
    inserts_seen 5 c.self.view_is c.scaled-in-5.ensures.place c.scaled-in-5.ensures.entries
    (inserts_after (map (short_row s.divisor) s.twos.items)
    (inserts_after (map (short_row s.divisor) s.threes.items)
    (inserts_after (map (short_row s.divisor) s.fours.items)
    (inserts_before _ (inserts_pushed (short_row s.divisor) s.fives.items _ _ c.in_ok-push-in-5.ensures.items)))))

pub returns-in_ok-push-in-6 : goal.returns-in_ok-push-in-6
returns-in_ok-push-in-6 c =
    let s = c.self.inside in
    inserts_seen 6 c.self.view_is c.scaled-in-6.ensures.place c.scaled-in-6.ensures.entries
    (inserts_after (map (short_row s.divisor) s.twos.items)
    (inserts_after (map (short_row s.divisor) s.threes.items)
    (inserts_after (map (short_row s.divisor) s.fours.items)
    (inserts_after (map (short_row s.divisor) s.fives.items)
    (inserts_before _ (inserts_pushed (short_row s.divisor) s.sixes.items _ _ c.in_ok-push-in-6.ensures.items))))))

pub returns-in_ok-push-in-7 : goal.returns-in_ok-push-in-7
returns-in_ok-push-in-7 c =
    let s = c.self.inside in
    inserts_seen 7 c.self.view_is c.scaled-in-7.ensures.place c.scaled-in-7.ensures.entries
    (inserts_after (map (short_row s.divisor) s.twos.items)
    (inserts_after (map (short_row s.divisor) s.threes.items)
    (inserts_after (map (short_row s.divisor) s.fours.items)
    (inserts_after (map (short_row s.divisor) s.fives.items)
    (inserts_after (map (short_row s.divisor) s.sixes.items)
    (inserts_before _ (inserts_pushed (short_row s.divisor) s.sevens.items _ _ c.in_ok-push-in-7.ensures.items)))))))

pub returns-in_ok-push-in_default : goal.returns-in_ok-push-in_default
returns-in_ok-push-in_default c =
    let s = c.self.inside in
    inserts_seen 8 c.self.view_is c.scaled-in_default.ensures.place c.scaled-in_default.ensures.entries
    (inserts_after (map (short_row s.divisor) s.twos.items)
    (inserts_after (map (short_row s.divisor) s.threes.items)
    (inserts_after (map (short_row s.divisor) s.fours.items)
    (inserts_after (map (short_row s.divisor) s.fives.items)
    (inserts_after (map (short_row s.divisor) s.sixes.items)
    (inserts_after (map (short_row s.divisor) s.sevens.items)
    (inserts_pushed (short_row s.divisor) s.eights.items _ _ c.in_ok-push-in_default.ensures.items)))))))

-- What is wrong with the body.
use Rattle.std.proofs.Common.{◌≡◌, ◌≢◌, ℕ, ◌+◌, ◌<◌, ◌≤◌, List, [], ◌∷◌, ◌++◌, length, map, take, get_or, inl, inr, refl, sym, subst, ap}
use Rattle.std.proofs.Common.{◌∙◌, arith, append_assoc}
use Rattle.std.proofs.lemmas.List.{get_or-map, get_or-take, length-map, length-take, take_all, take-map}
use Rattle.std.specs.List.{AllPairs, Contains}
use Rattle.text_lines.proofs.EntryReads.{split_at, zip_long, are_entries, read_all}
use Rattle.text_lines.specs.Entries.{Entry, keys_of}
use Rattle.text_lines.specs.EntryLines.{entry_of, entries_of, IsEntryLine, HasRead}
use Rattle.text_lines.specs.WordLines.{WordLine}
use Rattle.text_lines.specs.declared.entry_line.EntryLine.{EntryLine}
use Rattle.text_lines.specs.declared.fault.FileWhat.{FileWhat}
use Rattle.text_lines.specs.declared.fault.FileWhat.TheVariants as what
use Rattle.tra_reader.specs.Entries.{StatePair, transition_lines}
use Rattle.tra_reader.specs.Head.{HasHead}
use Rattle.tra_reader.specs.Pairs.{pair_of}
use Rattle.tra_reader.specs.Reading.{IsFailing, IsFurther, StopsAt, AreAllRead, IsWhole, IsBodyFault}
use Rattle.tra_reader.specs.Repeats.{number_of, IsFirstRepeat}
use Rattle.tra_reader.specs.TraFault.{HasBody, HasWrongLine, HasTooFew, HasTooMany, LinesHaveFault}
use Rattle.tra_reader.specs.declared.body.Body.{Body}
use Rattle.tra_reader.specs.declared.body.Stop.{Stop}
use Rattle.tra_reader.specs.declared.body.Stop.TheVariants.{AllRead, Missing, Further, Failing}
use Rattle.tra_reader.specs.declared.entry.Pair.{Pair}
use Rattle.tra_reader.proofs.ChainLemmas.{kept_lines}
use Rattle.tra_reader.proofs.RateLemmas.{no_entry}
use Rattle.tra_reader.proofs.Readings.{wrong_line}
use Rattle.tra_reader.proofs.TransitionKinds.{same_pair}

-- the states of the entries, numbered from 1
abbrev pub pairs : List (EntryLine Pair) → List StatePair
pairs es = keys_of (entries_of pair_of es)

abbrev pub AreApart : List (EntryLine Pair) → Type 0
AreApart es = AllPairs ◌≢◌ (pairs es)

-- ---- pairs by their numbers

pair_at : (es : List (EntryLine Pair)) (i : ℕ) (d : StatePair) → i < length es → get_or (pairs es) i d ≡ pair_of (get_or es i no_entry).key
pair_at es i d within =
    let e : Entry StatePair = entry_of pair_of no_entry in
    get_or-map (λ (z : Entry StatePair). z.key) (entries_of pair_of es) i e d (omega (arith, within, length-map es (entry_of pair_of)))
    ∙ ap (λ (z : Entry StatePair). z.key) (get_or-map (entry_of pair_of) es i no_entry e within)

-- numbers of pairs that differ are of pairs that differ
apart_from_numbers : (es : List (EntryLine Pair)) (place : ℕ) → AllPairs ◌≢◌ (take place (map number_of es)) → AreApart (take place es)
apart_from_numbers es place h i j d below inside same =
    let some = take place es in
    let within : j < length some =
    omega (arith, inside, length-map some (entry_of pair_of), length-map (entries_of pair_of some) (λ z. z.key))
    in
    let e : Pair = (get_or some i no_entry).key in
    let f : Pair = (get_or some j no_entry).key in
    let all : AllPairs ◌≢◌ (map number_of some) = subst (AllPairs ◌≢◌) (take-map number_of place es) h in
    let first = get_or-map number_of some i no_entry 0 (omega (arith, below, within)) in
    let second = get_or-map number_of some j no_entry 0 within in
    let pairs_same : pair_of e ≡ pair_of f = sym (pair_at some i d (omega (arith, below, within))) ∙ same ∙ pair_at some j d within in
    let from : e.from + 1 ≡ f.from + 1 = ap (λ z. z.from) pairs_same in
    let to : e.to + 1 ≡ f.to + 1 = ap (λ z. z.to) pairs_same in
    all i j 0 below (omega (arith, within, length-map some number_of)) (omega (arith, first, second, from, to))

-- equal numbers are of the same pair
same_from_numbers : (e f : EntryLine Pair) → e.key.to < 65536 → f.key.to < 65536 → number_of e ≡ number_of f
    → pair_of e.key ≡ pair_of f.key
same_from_numbers e f a b same = same_pair (pair_of e.key) (pair_of f.key) (omega arith) (omega arith)

-- no pair stands twice where there is no first repeat
all_apart : (es : List (EntryLine Pair)) (place : ℕ) → length es ≤ place → IsFirstRepeat (map number_of es) place → AreApart es
all_apart es place all h = subst AreApart (take_all place es all) (apart_from_numbers es place h.once)

-- ---- the faults of a body

-- no more lines are read than the head says
stops_due : (n count done : ℕ) (more : List WordLine) (stop : Stop) → StopsAt n count done more stop → done ≤ count
stops_due n count done more AllRead h = omega (arith, h.1)
stops_due n count done more Missing h = omega (arith, h.1)
stops_due n count done more (Further number) h = omega (arith, h.full)
stops_due n count done more (Failing number fault) h = omega (arith, h.due)

module _ (n count : ℕ) (rows : List WordLine) (es : List (EntryLine Pair)) (more : List WordLine)
    (read : HasRead (transition_lines n) pair_of rows es more) where
  -- all lines are right
  pub all_read : AreApart es → more ≡ [] → length es ≡ count → AreAllRead n count rows es
  all_read apart none full =
      let all = read_all (transition_lines n) pair_of rows more es read none apart in
      record { read = all; all = zip_long (IsEntryLine (transition_lines n) pair_of) rows es all.each ∙ full }

  module _ (lines : List WordLine) (head : HasHead lines n count rows) where
    after : HasBody lines
    after = record { n = n; count = count; body = rows; head = head }

    long : length read.front ≡ length es
    long = zip_long (IsEntryLine (transition_lines n) pair_of) read.front es read.are

    -- the first repeat is on a line that fails
    pub repeat_fails : (place : ℕ) (d : EntryLine Pair) → length es ≤ count → IsFirstRepeat (map number_of es) place → place < length es
        → HasWrongLine lines (get_or es place d).line what.Repeated
    unfolding after
    repeat_fails place d few first within =
        let s = split_at (IsEntryLine (transition_lines n) pair_of) read.front es place read.are within in
        let kept = kept_lines n read.front es read.are in
        let again = first.repeats (omega (arith, within, length-map es number_of)) in
        let i = again.0 in
        let e = get_or es place d in
        let f = get_or es i no_entry in
        let some = take place es in
        let numbers : number_of f ≡ number_of e =
        sym (get_or-map number_of es i no_entry 0 (omega (arith, again.1, within))) ∙ (again.2 ∙ get_or-map number_of es place d 0 within)
        in
        let f_small : f.key.to < 65536 = omega (arith, (kept i no_entry (omega (arith, again.1, within))).to_state, head.states.range.1) in
        let e_small : e.key.to < 65536 = omega (arith, (kept place d within).to_state, head.states.range.1) in
        let short : i < length some = omega (arith, length-take place es, again.1, within) in
        let there : Contains (pairs some) (pair_of e.key) = (
          i,
          omega (arith, short, length-map some (entry_of pair_of), length-map (entries_of pair_of some) (λ z. z.key)),
          pair_at some i (pair_of e.key) short
              ∙ ap (λ (z : EntryLine Pair). pair_of z.key) (get_or-take place es i no_entry again.1)
              ∙ same_from_numbers f e f_small e_small numbers,
        ) in
        record {
          after = after;
          line = record {
            front = s.before;
            line = s.x;
            more = s.after ++ more;
            entries = entries_of pair_of some;
            split = read.split ∙ (ap (λ z. z ++ more) s.is ∙ append_assoc s.before (s.x ∷ s.after) more);
            are =
                are_entries (transition_lines n) pair_of s.before some
                (record { each = s.each; once = apart_from_numbers es place first.once });
            fails = record { entry = entry_of pair_of e; is = (s.here d).is; earlier = there };
            here = sym (s.here d).here;
          };
          due = omega (arith, s.long, within, few);
        }

    -- the line at which reading stopped fails
    pub stop_fails : (end number : ℕ) (fault : FileWhat) → AreApart es → IsFailing n count (length es) more number fault
        → LinesHaveFault lines end number fault
    unfolding after
    stop_fails end number fault apart h =
        wrong_line lines end number fault (record {
          after = after;
          line = record {
            front = read.front;
            line = h.line;
            more = h.others;
            entries = entries_of pair_of es;
            split = read.split ∙ ap (λ z. read.front ++ z) h.is;
            are = are_entries (transition_lines n) pair_of read.front es (record { each = read.are; once = apart });
            fails = h.fails (entries_of pair_of es);
            here = h.here;
          };
          due = omega (arith, long, h.due);
        })

    -- there are too few lines
    pub too_few : (end : ℕ) → AreApart es → more ≡ [] → length es < count → HasTooFew lines end end
    unfolding after
    too_few end apart none short =
        let all = read_all (transition_lines n) pair_of rows more es read none apart in
        record {
          after = after;
          entries = entries_of pair_of es;
          are = are_entries (transition_lines n) pair_of rows es all;
          short = omega (arith, short, zip_long (IsEntryLine (transition_lines n) pair_of) rows es all.each);
          here = refl;
        }

    -- there are too many
    pub too_many : (number : ℕ) → AreApart es → IsFurther count (length es) more number → HasTooMany lines number
    unfolding after
    too_many number apart h = record {
      after = after;
      front = read.front;
      line = h.line;
      more = h.others;
      split = read.split ∙ ap (λ z. read.front ++ z) h.is;
      entries = entries_of pair_of es;
      are = are_entries (transition_lines n) pair_of read.front es (record { each = read.are; once = apart });
      full = long ∙ h.full;
      here = h.here;
    }

-- ---- a body whose first repeat is known

module _ (body : Body) (place : ℕ) (first : IsFirstRepeat (map number_of body.entries.items) place) where
  -- there is one
  pub repeated : (lines : List WordLine) (end : ℕ) (d : EntryLine Pair) → place < length body.entries.items
      → IsBodyFault lines end body (get_or body.entries.items place d).line what.Repeated
  repeated lines end d within n count rows head is =
      repeat_fails n count rows body.entries.items is.more is.read lines head place d
      (stops_due n count (length body.entries.items) is.more body.stop is.stops) first within

  module _ (none : length body.entries.items ≤ place) where
    apart : AreApart body.entries.items
    apart = all_apart body.entries.items place none first

    pub whole : body.stop ≡ AllRead → IsWhole body
    whole e n count rows is =
        let stops = subst (StopsAt n count (length body.entries.items) is.more) e is.stops in
        all_read n count rows body.entries.items is.more is.read apart stops.0 stops.1

    pub missing : (lines : List WordLine) (end : ℕ) → body.stop ≡ Missing → IsBodyFault lines end body end what.Count
    missing lines end e n count rows head is =
        let stops = subst (StopsAt n count (length body.entries.items) is.more) e is.stops in
        inl (too_few n count rows body.entries.items is.more is.read lines head end apart stops.0 stops.1)

    pub further : (lines : List WordLine) (end number : ℕ) → body.stop ≡ Further number → IsBodyFault lines end body number what.Count
    further lines end number e n count rows head is =
        inr
        (too_many n count rows body.entries.items is.more is.read lines head number apart
        (subst (StopsAt n count (length body.entries.items) is.more) e is.stops))

    pub failing : (lines : List WordLine) (end number : ℕ) (fault : FileWhat) → body.stop ≡ Failing number fault
        → IsBodyFault lines end body number fault
    failing lines end number fault e n count rows head is =
        stop_fails n count rows body.entries.items is.more is.read lines head end number fault apart
        (subst (StopsAt n count (length body.entries.items) is.more) e is.stops)

use Rattle.std.proofs.Common.{◌≤◌, MatchOption, subst, ap, ◌∙◌, refl}
use Rattle.std.proofs.lemmas.List.{get_or_default}
use Rattle.text_lines.proofs.EntryReads.{same_scale, within_scale_of}
use Rattle.text_lines.specs.EntryLines.{entries_of}
use Rattle.text_lines.specs.declared.entry_line.EntryLine.{EntryLine}
use Rattle.tra_reader.specs.Entries.{transition_lines}
use Rattle.tra_reader.specs.Pairs.{pair_of}
use Rattle.tra_reader.specs.Rates.{IsFirstLarge, IsChainOf}
use Rattle.tra_reader.specs.TraText.{AreWithin}
use Rattle.tra_reader.specs.declared.entry.Pair.{Pair}
use Rattle.tra_reader.proofs.ChainLemmas.{few_decimals, exits_are, is_tra}
use Rattle.tra_reader.proofs.RateLemmas.{no_entry, rates-fit}
use Rattle.tra_reader.proofs.tra.chain_of.Goals as goal

pub first_large-requires-clause-decimals : goal.first_large-requires-clause-decimals
first_large-requires-clause-decimals c = rw c.scale_of-scale.ensures (within_scale_of c.args.entries.now)

pub first_large-requires-clause-scale : goal.first_large-requires-clause-scale
first_large-requires-clause-scale c = rw c.scale_of-scale.ensures (few_decimals c.args.n c.args.entries.now c.requires.kept)

pub returns-in-Some-clause-fault : goal.returns-in-Some-clause-fault
returns-in-Some-clause-fault c =
    let es = c.args.entries.now in
    let scale = c.scale_of-scale.result in
    let place = c.in-Some.place in
    let found =
    subst (λ z. MatchOption z (AreWithin scale (entries_of pair_of es)) (IsFirstLarge scale es)) c.in-Some.is c.in_ok-place.ensures
    in
    let first =
    subst (λ z. IsFirstLarge z es place) (c.scale_of-scale.ensures ∙ same_scale (transition_lines c.args.n) pair_of es) found
    in
    rw c.at.ensures (record {
      place = place;
      first = first;
      here = λ d. ap (λ (e : EntryLine Pair). e.line) (get_or_default es place no_entry d first.there);
      is = refl;
    })

pub rates_of-requires-clause-decimals : goal.rates_of-requires-clause-decimals
rates_of-requires-clause-decimals c = rw c.scale_of-scale.ensures (within_scale_of c.args.entries.now)

pub rates_of-requires-clause-scale : goal.rates_of-requires-clause-scale
rates_of-requires-clause-scale c = rw c.scale_of-scale.ensures (few_decimals c.args.n c.args.entries.now c.requires.kept)

pub rates_of-requires-clause-fits : goal.rates_of-requires-clause-fits
rates_of-requires-clause-fits c =
    let es = c.args.entries.now in
    let scale = c.scale_of-scale.result in
    rates-fit scale es
    (subst (λ z. MatchOption z (AreWithin scale (entries_of pair_of es)) (IsFirstLarge scale es)) c.in_default.is c.in_ok-place.ensures)

pub new-requires : goal.new-requires
new-requires c =
    let es = c.args.entries.now in
    let scale = c.scale_of-scale.result in
    let short : c.scale_of-scale.result ≤ 18 = rw c.scale_of-scale.ensures (few_decimals c.args.n es c.requires.kept) in
    is_tra c.args.n scale es c.in_ok-rates.rates.items c.requires.some c.requires.few short c.requires.kept c.requires.once
    (subst (λ z. MatchOption z (AreWithin scale (entries_of pair_of es)) (IsFirstLarge scale es)) c.in_default.is c.in_ok-place.ensures)
    c.in_ok-rates.ensures

pub returns-clause-value : goal.returns-clause-value
returns-clause-value c =
    let es = c.args.entries.now in
    let scale = c.scale_of-scale.result in
    let within =
    subst (λ z. MatchOption z (AreWithin scale (entries_of pair_of es)) (IsFirstLarge scale es)) c.in_default.is c.in_ok-place.ensures
    in
    let made : IsChainOf c.args.n es (record { n = c.args.n; scale = c.scale_of-scale.result; rates = c.in_ok-rates.rates.items }) =
    record {
      states = refl;
      scale = c.scale_of-scale.ensures ∙ same_scale (transition_lines c.args.n) pair_of es;
      rates = c.in_ok-rates.ensures;
      exits = exits_are scale es c.in_ok-rates.rates.items c.in_ok-rates.ensures within;
    } in
    rw c.new.ensures made

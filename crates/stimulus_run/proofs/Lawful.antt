-- What a lawful stimulus says of its nets and of the times of its lines.
use Rattle.std.proofs.Common.{◌≡◌, ℕ, ◌<◌, ◌≤◌, List, length, get_or, ap, sym, ◌∙◌, subst, arith}
use Rattle.std.specs.Prelude.{All, Contains}
use Rattle.flat_net.specs.declared.parts.Parts.{Parts}
use Rattle.flat_net.specs.Soundness.{IsSound, AreDistinctNets}
use Rattle.vector_text.specs.declared.stimulus.StimulusWhat.{StimulusWhat}
use Rattle.vector_text.specs.declared.stimulus.StimulusWhat.TheVariants.{Values, Strobe, Expect}
use Rattle.vector_text.specs.declared.stimulus.StimulusLine.{StimulusLine}
use Rattle.vector_text.specs.declared.stimulus.Stimulus.{Stimulus}
use Rattle.vector_text.specs.Lawful.{IsLawful, MayFollow}
use Rattle.stimulus_run.specs.Lines.{DoTimesRise}

pub lawful-nets : (parts : Parts) → IsSound parts → (stimulus : Stimulus) → IsLawful parts stimulus →
    AreDistinctNets (length parts.nets) stimulus.inputs
lawful-nets parts sound stimulus lawful = record {
  within = λ k d lt.
      let net : ℕ = get_or stimulus.inputs k d in
      let there = lawful.inputs k d lt in
      subst (λ n. n < length parts.nets) there.2 (sound.inputs.within there.0 net there.1);
  distinct = lawful.distinct;
}

follow-times : (a : StimulusWhat) (t : ℕ) (b : StimulusWhat) (u : ℕ) → MayFollow a t b u → t ≤ u
follow-times (Values v) t (Values w) u h = omega arith
follow-times Strobe t (Values w) u h = omega arith
follow-times (Expect v) t (Values w) u h = omega arith
follow-times (Values v) t Strobe u h = h
follow-times Strobe t Strobe u h = omega arith
follow-times (Expect v) t Strobe u h = omega arith
follow-times (Values v) t (Expect w) u h = h
follow-times Strobe t (Expect w) u h = omega arith
follow-times (Expect v) t (Expect w) u h = omega arith

pub times-rise : (parts : Parts) (stimulus : Stimulus) → IsLawful parts stimulus → DoTimesRise stimulus.lines
times-rise parts stimulus lawful i j d lt within =
    let a : StimulusLine = get_or stimulus.lines i d in
    let b : StimulusLine = get_or stimulus.lines j d in
    follow-times a.what a.time b.what b.time (lawful.order i j d lt within)

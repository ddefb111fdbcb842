use Rattle.std.proofs.Common.{rules, ◌≡◌, ◌≤◌, ◌++◌, ◌∙◌, ℕ, Option, ap, subst}
use Rattle.std.specs.Prelude.{IfSome, codes, string_bytes}
use Rattle.std.specs.List.{concat}
use Rattle.lu_report.specs.declared.version.Version.{Version}
use Rattle.lu_report.specs.Parts.{IsSerialBound}
use Rattle.lu_report.specs.Text.{finding_lines, local_lines, number_line, serial_lines, version_line, version_of}
use Rattle.lu_report.proofs.Texts.{report_lines_in}
use Rattle.lu_report.proofs.writer.write_report.Goals as goal

pub returns : goal.returns
returns c =
    let r = c.args.report.now in
    let version : c.of-version.result ≡ version_of r.serial r.local =
    c.of-version.ensures ∙ (ap (λ (o : Option ℕ). version_of o c.local.result) c.serial.ensures.serial ∙ ap (version_of r.serial) c.local.ensures.local) in
    let head : string_bytes c.in_ok-text.text ≡ version_line (version_of r.serial r.local) = c.in_ok-text.ensures.ok ∙ (c.line.ensures ∙ ap version_line version) in
    let bound : string_bytes c.put_number.new.text ≡ string_bytes c.in_ok-text.text ++ number_line (codes "bound ") r.bound =
    subst (λ n. string_bytes c.put_number.new.text ≡ string_bytes c.in_ok-text.text ++ number_line (codes "bound ") n) (c.from.ensures ∙ c.bound.ensures.bound) c.in_ok-put_number.ensures.text in
    let serial : string_bytes c.put_serial.new.text ≡ string_bytes c.put_number.new.text ++ concat (serial_lines r.serial) =
    subst (λ (o : Option ℕ). string_bytes c.put_serial.new.text ≡ string_bytes c.put_number.new.text ++ concat (serial_lines o)) c.serial-2.ensures.serial c.in_ok-put_serial.ensures in
    let local : string_bytes c.put_local.new.text ≡ string_bytes c.put_serial.new.text ++ concat (local_lines (version_of r.serial r.local) r.local) =
    subst (λ (v : Version). string_bytes c.put_local.new.text ≡ string_bytes c.put_serial.new.text ++ concat (local_lines v r.local)) version
    (subst (λ n. string_bytes c.put_local.new.text ≡ string_bytes c.put_serial.new.text ++ concat (local_lines c.of-version.result n)) c.local-2.ensures.local c.in_ok-put_local.ensures) in
    let finding : string_bytes c.put_finding.new.text ≡ string_bytes c.put_local.new.text ++ concat (finding_lines r.finding) =
    subst (λ f. string_bytes c.put_finding.new.text ≡ string_bytes c.put_local.new.text ++ concat (finding_lines f)) c.finding.ensures.finding c.in_ok-put_finding.ensures.text in (
      record {
        most = subst (λ n. n ≤ 256) c.bound.ensures.bound c.bound.ensures.most;
        serial = subst (λ (o : Option ℕ). IfSome o IsSerialBound) c.serial.ensures.serial c.serial.ensures.range;
        local_few = subst (λ n. n ≤ 16) c.local.ensures.local c.local.ensures.few;
        within = c.finding.ensures.within;
        judged = c.finding.ensures.judged;
      },
      (search rules, search rules),
      report_lines_in _ _ _ _ _ _ _ (serial_lines r.serial) (local_lines (version_of r.serial r.local) r.local) (finding_lines r.finding) head bound serial local finding,
    )

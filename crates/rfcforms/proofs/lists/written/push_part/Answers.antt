use Rattle.std.proofs.Common.{◌≡◌, ◌++◌, None, Some, refl, sym, take}
use Rattle.rfcforms.specs.ListSearches.{HasElement, HasMark}
use Rattle.rfcforms.specs.Lists.{a_list, all_stands, from_element, list_at, list_found, list_written}
use Rattle.rfcforms.specs.declared.lists.mark.MarkSearch.TheVariants.{Mark}
use Rattle.rfcforms.proofs.ListLemmas.{line-part, two-appended}
use Rattle.rfcforms.proofs.lists.written.push_part.Goals as goal

pub returns-in_default : goal.returns-in_default
returns-in_default c =
    let h = rw c.in_default.is at c.mark_in.ensures in
    (c.args.text.now, all_stands h, c.in_ok-extend_from_slice.ensures.items)

pub returns-in-Some : goal.returns-in-Some
returns-in-Some c =
    let text = c.args.text.now in
    let count = c.in-Mark.count in
    let position = c.in-Mark.position in
    let list = list_found c.in-Some.list in
    let h : HasMark text (Mark count position) = rw c.in-Mark.is at c.mark_in.ensures in
    let k : HasElement (from_element text position) c.element_in-search.result =
    rw c.from_element.ensures at c.element_in-search.ensures in
    let e : list_at text count position c.element_in-search.result ≡ Some list =
    sym (rw c.in-Some.is at c.list_at.ensures) in
    let p = c.in_ok-push_list.ensures in (
      take count text ++ list_written c.args.form list p.0,
      a_list h k e p.1,
      two-appended c.args.out.now.items (take count text) (list_written c.args.form list p.0) _ _ _ _
          c.in_ok-extend_from_slice-2.ensures.items c.items_before.ensures p.2 refl,
    )

pub returns : goal.returns
returns c =
    let text = c.args.text.now in
    let count = c.in-Mark.count in
    let position = c.in-Mark.position in
    let h : HasMark text (Mark count position) = rw c.in-Mark.is at c.mark_in.ensures in
    let k : HasElement (from_element text position) c.element_in-search.result =
    rw c.from_element.ensures at c.element_in-search.ensures in
    let e : list_at text count position c.element_in-search.result ≡ None =
    sym (rw c.in_default-list_at.is at c.list_at.ensures) in
    let line = c.items_after-line.result.now in (
      take position text ++ take c.line_size-size.result line,
      line-part c.args.form text line c.items_after.result.now count position c.line_size-size.result
          c.element_in-search.result h k e c.items_after-line.ensures c.line_size-size.ensures c.items_after.ensures,
      two-appended c.args.out.now.items (take position text) (take c.line_size-size.result line) _ _ _ _
          c.in_ok-extend_from_slice-3.ensures.items c.items_before-2.ensures
          c.in_ok-extend_from_slice-4.ensures.items c.items_before-3.ensures,
    )
